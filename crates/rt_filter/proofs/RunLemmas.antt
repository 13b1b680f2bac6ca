-- A run over a table that was loaded, and over one that was refused.
use Rattle.std.proofs.Common.{◌≡◌, ◌≢◌, ◌∙◌, ◌+◌, ◌<◌, ℕ, Bool, true, arith, List, [], ◌++◌, length, Option, None, Some}
use Rattle.std.proofs.{Common.{sym, ap, subst, append-nil}, lemmas.List.{length-append}}
use Rattle.std.specs.Prelude.{Ok, Result, if◌then◌else◌, option_map}
use Rattle.rt_command.specs.Choices.{Choices}
use Rattle.rt_geo.specs.declared.entry.Entry.{Entry}
use Rattle.rt_text.specs.{Steps.{◌>>=◌}, Tables.{table_of}, declared.tables.TableFault.{TableFault}}
use Rattle.rt_tree.specs.{Packed.{Packed}, Packing.{pack_of}}
use Rattle.rt_filter.specs.Endings.{ConsumedAtLeast, Ends, EndsWith, Happened, Serves, ServesWith, SourceTells}
use Rattle.rt_text.specs.{RunFaults.{status_of}, declared.run_faults.RunFault.{RunFault}}
use Rattle.rt_filter.specs.{Endings.{run_fault_of}, Replies.{Loaded}}
use Rattle.rt_filter.specs.{Replies.{tree_of}, Runs.{loaded_of, run_of, run_over}, Stages.{HasLoaded, Stops}}
use Rattle.rt_filter.specs.{Stages.{is_of_load}, declared.filter.Outcome.{Outcome}}
use Rattle.rt_filter.specs.declared.serving.{ServeFault.{ServeFault}, Served.{Served}}
use Rattle.rt_filter.proofs.{ServingLemmas.{consumes_none, known, so_far, source_tells}, PushLemmas.{nothing_pushed}}
use Rattle.rt_text.specs.declared.tables.TableFault.TheVariants as load
use Rattle.rt_text.specs.declared.run_faults.RunFault.TheVariants as run
use Rattle.std.proofs.Common.{rules}
use Rattle.std.specs.Io.KnownBytes.{Appends}

-- what is loaded of a table's entries, or of its fault
abbrev pub loaded_with : Choices → Result (List Entry) TableFault → Result Loaded TableFault
loaded_with choices table = do
  entries ← table
  Ok (record { entries = entries; fanout = choices.fanout })

-- a run that reads and writes all
abbrev pub whole_run : (written : List ℕ) → (bad : Bool) → List ℕ × Outcome
whole_run written bad = (written, record { status = if bad then 1 else 0; fault = None })

-- ---- the table was loaded

pub has_loaded : (choices : Choices) (table : List ℕ) (entries : List Entry) (tree : Packed)
    → table_of table choices.header choices.max_entries ≡ Ok entries → tree ≡ pack_of choices.fanout entries
    → HasLoaded choices table tree
has_loaded choices table entries tree h packed = record {
  loaded = record { entries = entries; fanout = choices.fanout };
  same = ap (loaded_with choices) h;
  packed = packed;
}

-- ---- how the run ends

module _ (choices : Choices) (table : List ℕ) (coming written : Option (List ℕ)) where
  abbrev unread : Happened
  unread = so_far [] coming []

  row : (cause : RunFault) (status : ℕ) → Stops choices table cause → is_of_load (Some cause) ≡ true → cause ≢ run.Table load.Memory
      → status ≡ status_of cause → EndsWith (loaded_of choices table) unread (record { status = status; fault = Some cause }) (Some cause)
  row cause status h of_load own is = grind (arith, h, of_load, own, is)

  pub ends_early : (outcome : Outcome) (cause : RunFault) → Stops choices table cause → is_of_load (Some cause) ≡ true
      → cause ≢ run.Table load.Memory → outcome.fault ≡ Some cause → outcome.status ≡ status_of cause
      → Ends choices table (known coming written) (known coming written) outcome
  ends_early outcome cause h of_load own fault status = rw fault (
    unread,
    source_tells coming coming [] [] (consumes_none coming),
    nothing_pushed written,
    row cause outcome.status h of_load own status,
  )

module _ (choices : Choices) (table : List ℕ) (coming coming' written written' : Option (List ℕ)) where
  served_row : (loaded : Loaded) (what : Happened) (bad : Bool) (cause : Option ServeFault) (status : ℕ)
      → loaded_of choices table ≡ Ok loaded → ServesWith loaded what bad cause → (cause ≡ None → status ≡ (if bad then 1 else 0))
      → EndsWith (loaded_of choices table) what (record { status = status; fault = option_map run_fault_of cause }) (option_map run_fault_of cause)
  served_row loaded what bad cause status same w is = grind (arith, same, w, is)

  pub ends_served : (tree : Packed) (served : Served) → HasLoaded choices table tree
      → ((loaded : Loaded) → tree ≡ tree_of loaded → Serves loaded (known coming written) (known coming' written') served)
      → (outcome : Outcome) → outcome.fault ≡ option_map run_fault_of served.fault → (served.fault ≡ None → outcome.status ≡ (if served.bad then 1 else 0))
      → Ends choices table (known coming written) (known coming' written') outcome
  ends_served tree served h s outcome fault status = search (rules, served_row)

-- ---- where nothing fails outside

row_whole : (loaded : Result Loaded TableFault) (what : Happened) (outcome : Outcome) (fault : Option RunFault)
    → EndsWith loaded what outcome fault → fault ≢ Some run.Memory → fault ≢ Some (run.Table load.Read) → fault ≢ Some run.Read
    → fault ≢ Some run.Write → run_over loaded (what.consumed ++ what.rest) ≡ (what.out, outcome)
row_whole loaded what outcome fault h memory unread pulls pushes = grind (arith, h, memory, unread, pulls, pushes, append-nil)

all_queries : (queries : List ℕ) (now : Option (List ℕ)) (what : Happened) → SourceTells (Some queries) now what → queries ≡ what.consumed ++ what.rest
all_queries queries now what h = grind (arith, h)

all_written : (before out : List ℕ) (now : Option (List ℕ)) → Appends (Some before) now out → now ≡ Some (before ++ out)
all_written before out now h = grind (arith, h)

used_up : (turns : ℕ) (queries : List ℕ) (now : Option (List ℕ)) → ConsumedAtLeast turns (Some queries) now → length queries < turns → ⊥
used_up turns queries now h less = grind (arith, h, length-append h.0)

-- the turns aren't used up by fewer bytes, and no push fails where none is counted
pub ends_whole : (choices : Choices) (table queries before : List ℕ) (old now written written' : Option (List ℕ)) (outcome : Outcome)
    (turns pulls_old pulls_new pushes_old pushes_new : ℕ)
    → Ends choices table (known old written) (known now written') outcome → old ≡ Some queries → written ≡ Some before
    → (outcome.fault ≡ Some run.Read → pulls_new ≡ pulls_old → ConsumedAtLeast turns old now)
    → (outcome.fault ≡ Some run.Write → pushes_new ≡ pushes_old + 1)
    → outcome.fault ≢ Some run.Memory → outcome.fault ≢ Some (run.Table load.Read) → pulls_new ≡ pulls_old → pushes_new ≡ pushes_old
    → length queries < turns
    → (written' ≡ Some (before ++ (run_of choices table queries).0)) × (outcome ≡ (run_of choices table queries).1)
ends_whole choices table queries before old now written written' outcome turns a b c d h is_queries is_before used pushed m t pulls pushes less =
    let p : outcome.fault ≢ Some run.Read =
    λ e. used_up turns queries now (subst (λ o. ConsumedAtLeast turns o now) is_queries (used e pulls)) less in
    let q : outcome.fault ≢ Some run.Write = λ e. let more = pushed e in absurd (omega (arith, more, pushes)) in
    let source = all_queries queries now h.0 (subst (λ o. SourceTells o now h.0) is_queries h.1) in
    let sink = all_written before h.0.out written' (subst (λ o. Appends o written' h.0.out) is_before h.2) in
    let whole = ap (run_of choices table) source ∙ row_whole _ h.0 outcome outcome.fault h.3 m t p q in
    (sink ∙ ap (λ r. Some (before ++ r.0)) (sym whole), ap (λ r. r.1) (sym whole))
