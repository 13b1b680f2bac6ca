-- Entries of boxes, one after the other.
use Rattle.std.proofs.Common.{◌≡◌, ◌+◌, ◌-◌, ◌<◌, ◌++◌, ◌∷◌, [], ℕ, zero, suc, List, Ok, Err, refl, arith}
use Rattle.rt_geo.specs.declared.entry.Entry.{Entry}
use Rattle.rt_text.specs.declared.tables.TableFault.{TableFault}
use Rattle.rt_embed.specs.GivenBoxes.{Given, entries_upto, entry_of}

module _ (given : Given) where
  -- one more
  pub upto_more : (place : ℕ) (before : List Entry) (entry : Entry) → entries_upto given place ≡ Ok before
      → entry_of (place + 1) (given.box_at place) ≡ Ok entry → entries_upto given (place + 1) ≡ Ok (before ++ entry ∷ [])
  upto_more place before entry so_far is = let next : place + 1 ≡ suc place = omega arith in rw (next, so_far, is) refl

  -- a fault stays the first
  stays : (more place : ℕ) (cause : TableFault) → entries_upto given place ≡ Err cause
      → entries_upto given (more + place) ≡ Err cause
  stays zero place cause is = let none : 0 + place ≡ place = omega arith in rw none is
  stays (suc more) place cause is =
      let one : suc more + place ≡ suc (more + place) = omega arith in rw (one, stays more place cause is) refl

  pub upto_err : (place all : ℕ) (before : List Entry) (cause : TableFault) → place < all → entries_upto given place ≡ Ok before
      → entry_of (place + 1) (given.box_at place) ≡ Err cause → entries_upto given all ≡ Err cause
  upto_err place all before cause inside so_far is =
      let next : place + 1 ≡ suc place = omega arith in
      let faulty : entries_upto given (suc place) ≡ Err cause = rw (so_far, is) refl in
      let rest : all ≡ (all - suc place) + suc place = omega (arith, inside) in
      rw rest (stays (all - suc place) (suc place) cause faulty)
