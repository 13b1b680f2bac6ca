use Rattle.std.proofs.Common.{◌≡◌, ◌∙◌, ◌∷◌, ◌-◌, ◌==◌, Some, arith, drop, length, rules, sym, take, true}
use Rattle.std.proofs.lemmas.Grind.{common_steps}
use Rattle.std.specs.List.{position_or_len}
use Rattle.rt_text.specs.Numbers.{number_text}
use Rattle.rt_text.specs.Words.{is_blank, words}
use Rattle.rt_text.proofs.LeadingLemmas.{words-front}
use Rattle.rt_text.proofs.WordLemmas.{ends_word}
use Rattle.rt_text.proofs.words.Words.next_number.Goals as goal

pub returns : goal.returns
returns c =
    let text = c.unwrap_or-text.result.now in
    let len = c.in_ok-found.found.len in
    let n = c.in_ok-found.found.number in
    let rest = take (length text - len) (drop len text) in
    let number : number_text (take len text) ≡ Some n = search rules in
    let ends : (position_or_len is_blank rest == 0) ≡ true = ends_word _ _ rest c.first.result c.first.ensures.value c.is_none_or.ensures (λ x k. search rules) in
    let spaced : words text ≡ words c.self.inside.rest.now = search rules in
    let whole : words text ≡ take len text ∷ words rest = words-front text rest len n number (grind (arith, common_steps)) ends in
    (take len text, sym c.self.view_is ∙ sym spaced ∙ whole, search rules)
