use Rattle.std.proofs.Common.{◌≡◌, ◌∙◌, ◌-◌, arith, drop, length, not, position, rules, sym, take}
use Rattle.std.proofs.lemmas.{Grind.{common_steps}, Iterator.{YieldsList-from_slice}, Iterator.Search.{position_from_yields_List}}
use Rattle.rt_text.specs.Words.{is_blank}
use Rattle.rt_text.proofs.WordLemmas.{first_place, words_next, words_none}
use Rattle.rt_text.proofs.words.WordsIterator.next.Goals as goal

pub returns-then-is_empty-clause-steps : goal.returns-then-is_empty-clause-steps
returns-then-is_empty-clause-steps c =
    let line = c.self.inside.rest.now in
    let at : c.position-start.result ≡ position (λ byte. not (is_blank byte)) line =
    position_from_yields_List (λ byte. not (is_blank byte)) _ _ c.position-start.result c.position-start.ensures.ran
    (YieldsList-from_slice line c.iter.ensures.rest) (λ x b q k. search rules) in
    let start = first_place (λ byte. not (is_blank byte)) line at c.unwrap_or.ensures in
    let none = sym c.self.view_is ∙ words_none is_blank line (take (length line - c.unwrap_or.result) (drop c.unwrap_or.result line))
    (rw (← start) (grind (arith, common_steps))) (grind (arith, common_steps)) in
    (none, none)

pub returns-clause-steps : goal.returns-clause-steps
returns-clause-steps c =
    let line = c.self.inside.rest.now in
    let rest = take (length line - c.unwrap_or.result) (drop c.unwrap_or.result line) in
    let at : c.position-start.result ≡ position (λ byte. not (is_blank byte)) line =
    position_from_yields_List (λ byte. not (is_blank byte)) _ _ c.position-start.result c.position-start.ensures.ran
    (YieldsList-from_slice line c.iter.ensures.rest) (λ x b q k. search rules) in
    let to : c.position-end.result ≡ position is_blank rest =
    position_from_yields_List is_blank _ _ c.position-end.result c.position-end.ensures.ran
    (YieldsList-from_slice rest c.iter-2.ensures.rest) (λ x b q k. search rules) in
    let start = first_place (λ byte. not (is_blank byte)) line at c.unwrap_or.ensures in
    let end = first_place is_blank rest to c.unwrap_or-2.ensures in
    sym c.self.view_is ∙ words_next is_blank line rest c.split_at.result.0.now c.split_at.result.1.now (rw (← start) (grind (arith, common_steps)))
    (grind (arith, common_steps)) (rw (← end) c.split_at.ensures.front) (rw (← end) c.split_at.ensures.back)

pub returns-clause-goes : goal.returns-clause-goes
returns-clause-goes c = let next = returns-clause-steps c in grind (arith, next)
