use Rattle.std.proofs.Common.{◌≡◌, ◌∙◌, [], Some, get_or}
use Rattle.csv.specs.Records.{fields_of}
use Rattle.rt_text.proofs.TableLemmas.{field_at-there, IsSome-field}
use Rattle.rt_text.proofs.tables.text_at.Goals as goal

pub unwrap-requires : goal.unwrap-requires
unwrap-requires c = IsSome-field _ c.get.result (fields_of c.args.fields.now) c.args.place c.get.ensures.value c.requires

pub returns : goal.returns
returns c =
    let there = field_at-there (fields_of c.args.fields.now) c.args.place c.requires in
    let found : Some c.unwrap.result.now ≡ Some (get_or (fields_of c.args.fields.now) c.args.place []) = (rw c.unwrap.ensures at c.get.ensures.value) ∙ there in
    cc
