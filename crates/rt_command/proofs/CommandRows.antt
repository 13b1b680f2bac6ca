-- Worked rows: on each of these command lines clap's own definitions, on which ours stand, compute what is requested, or the kinds of the refusal.
use Rattle.std.proofs.Common.{◌≡◌, ◌∷◌, [], refl, codes, true, false, List, ℕ, Some, None}
use Rattle.clap.specs.Words.{fault_of, takes}
use Rattle.clap.specs.declared.error.kind.ErrorKind.TheVariants as kind
use Rattle.clap.proofs.OnLiterals.{clap_on_literals}
use Rattle.rt_command.specs.Invocations.{arg_fault_of, filter_app, invocation_of}
use Rattle.rt_command.specs.declared.invocation.ArgFault.TheVariants as fault

abbrev line : List (List ℕ) → List (List ℕ)
line words = codes "rtfilter" ∷ words

-- ---- invocations

row_table : invocation_of (line (codes "t.csv" ∷ [])) ≡ Some (record { settings = record { header = false; fanout = 16; max_entries = 16777216 }; table = codes "t.csv"; queries = None })
unfolding clap_on_literals filter_app
row_table = refl

row_all : invocation_of (line (codes "-H" ∷ codes "--fanout" ∷ codes "2" ∷ codes "--max-entries" ∷ codes "5" ∷ codes "t.csv" ∷ codes "q.txt" ∷ []))
    ≡ Some (record { settings = record { header = true; fanout = 2; max_entries = 5 }; table = codes "t.csv"; queries = Some (codes "q.txt") })
unfolding clap_on_literals filter_app
row_all = refl

row_written_together : invocation_of (line (codes "t.csv" ∷ codes "--fanout=+64" ∷ codes "--header" ∷ []))
    ≡ Some (record { settings = record { header = true; fanout = 64; max_entries = 16777216 }; table = codes "t.csv"; queries = None })
unfolding clap_on_literals filter_app
row_written_together = refl

row_dashes : invocation_of (line (codes "--" ∷ codes "-x" ∷ [])) ≡ Some (record { settings = record { header = false; fanout = 16; max_entries = 16777216 }; table = codes "-x"; queries = None })
unfolding clap_on_literals filter_app
row_dashes = refl

row_taken : takes filter_app (line (codes "-H" ∷ codes "t.csv" ∷ [])) ≡ true
unfolding clap_on_literals filter_app
row_taken = refl

-- ---- refusals

row_no_table : fault_of filter_app (line []) ≡ kind.MissingRequiredArgument ∷ []
unfolding clap_on_literals filter_app
row_no_table = refl

row_above : fault_of filter_app (line (codes "--fanout" ∷ codes "65" ∷ codes "t.csv" ∷ [])) ≡ kind.ValueValidation ∷ []
unfolding clap_on_literals filter_app
row_above = refl

row_below : fault_of filter_app (line (codes "--fanout" ∷ codes "1" ∷ codes "t.csv" ∷ [])) ≡ kind.ValueValidation ∷ []
unfolding clap_on_literals filter_app
row_below = refl

row_three_words : fault_of filter_app (line (codes "a" ∷ codes "b" ∷ codes "c" ∷ [])) ≡ kind.UnknownArgument ∷ []
unfolding clap_on_literals filter_app
row_three_words = refl

row_help : fault_of filter_app (line (codes "--help" ∷ [])) ≡ kind.DisplayHelp ∷ []
unfolding clap_on_literals filter_app
row_help = refl

row_help_first : fault_of filter_app (line (codes "-h" ∷ codes "--fanout" ∷ codes "65" ∷ [])) ≡ kind.DisplayHelp ∷ []
unfolding clap_on_literals filter_app
row_help_first = refl

row_help_last : fault_of filter_app (line (codes "--fanout" ∷ codes "65" ∷ codes "--help" ∷ [])) ≡ kind.ValueValidation ∷ []
unfolding clap_on_literals filter_app
row_help_last = refl

-- ---- how refusals are reported

row_help_reported : arg_fault_of kind.DisplayHelp ≡ fault.Help
row_help_reported = refl

row_validation_reported : arg_fault_of kind.ValueValidation ≡ fault.Usage
row_validation_reported = refl

row_memory_reported : arg_fault_of kind.OutOfMemory ≡ fault.Memory
row_memory_reported = refl
