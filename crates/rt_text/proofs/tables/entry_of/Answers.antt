use Rattle.std.proofs.Common.{◌≡◌, ◌==◌, ◌||◌, ℕ, List, length, rules, true}
use Rattle.csv.specs.Records.{fields_of}
use Rattle.rt_text.proofs.tables.entry_of.Goals as goal

-- there are as many fields as a record may have
abbrev Enough : List (List ℕ) → Type 0
Enough fields = (length fields == 5 || length fields == 6) ≡ true

pub returns-clause-value : goal.returns-clause-value
returns-clause-value c = let enough : Enough (fields_of c.args.fields.now) = search rules in rw enough (search rules)

pub returns-in_default-clause-value : goal.returns-in_default-clause-value
returns-in_default-clause-value c = let enough : Enough (fields_of c.args.fields.now) = search rules in rw enough (search rules)

pub returns-in_err-id : goal.returns-in_err-id
returns-in_err-id c = let enough : Enough (fields_of c.args.fields.now) = search rules in rw enough (search rules)

pub returns-in_err-min_x : goal.returns-in_err-min_x
returns-in_err-min_x c = let enough : Enough (fields_of c.args.fields.now) = search rules in rw enough (search rules)

pub returns-in_err-max_x : goal.returns-in_err-max_x
returns-in_err-max_x c = let enough : Enough (fields_of c.args.fields.now) = search rules in rw enough (search rules)

pub returns-in_err-min_y : goal.returns-in_err-min_y
returns-in_err-min_y c = let enough : Enough (fields_of c.args.fields.now) = search rules in rw enough (search rules)

pub returns-in_err-max_y : goal.returns-in_err-max_y
returns-in_err-max_y c = let enough : Enough (fields_of c.args.fields.now) = search rules in rw enough (search rules)
