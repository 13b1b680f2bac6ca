-- Steps that may fail, one after the other, as `?` chains them in code.
use Rattle.std.specs.Prelude.{Result, Ok, Err}
use Rattle.std.specs.Result.{result_map_both}

infixl 10 ◌>>=◌
-- the next step, from the value of the one before; the first fault ends the chain
abbrev pub ◌>>=◌ : {A B E : Type 0} → Result A E → (A → Result B E) → Result B E
Ok a >>= next = next a
Err e >>= next = Err e

-- what is made of the value, or the same fault
abbrev pub map_value : {A B E : Type 0} → (A → B) → Result A E → Result B E
map_value made_of step = result_map_both made_of (λ e. e) step

-- the same value, or the fault in other words
abbrev pub map_fault : {A E F : Type 0} → (E → F) → Result A E → Result A F
map_fault fault_of step = result_map_both (λ a. a) fault_of step
