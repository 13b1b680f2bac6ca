-- One word that is read as what is made of a value.
use Rattle.std.proofs.Common.{◌≡◌, ℕ, List, [], ◌∷◌, refl}
use Rattle.std.specs.Prelude.{Result, Ok, Err}
use Rattle.rt_text.specs.Queries.{taken_as, word_as}
use Rattle.rt_text.specs.Steps.{map_value}
use Rattle.rt_text.specs.declared.query.QueryFault.{QueryFault}

module _ {X Y : Type 0} (make : X → Y) (read : List ℕ → Result X QueryFault) where
  pub word_as-made : (words : List (List ℕ)) → word_as (λ word. map_value make (read word)) words ≡ taken_as make (word_as read words)
  word_as-made [] = refl
  word_as-made (word ∷ more) = by (read word)
    where
      by : (r : Result X QueryFault) → map_value (λ found. (found, more)) (map_value make r) ≡ taken_as make (map_value (λ found. (found, more)) r)
      by (Ok x) = refl
      by (Err cause) = refl
