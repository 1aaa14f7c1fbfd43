-- `Jumps::union` of two models handed in: what it answers.
use Rattle.std.specs.Prelude.{ℕ, zero, suc, Bool, true, false, Option, Some, None, Result, Ok, Err}
use Rattle.numbers.specs.Refuse.{number}
use Rattle.bisim_core.specs.Data.{Columns}
use Rattle.bisim_core.specs.declared.wlts.Shape.{Shape}
use Rattle.epsdelta_theory.specs.Refusal.{models_refusal}
use Rattle.epsdelta_jumps.specs.declared.jumps.Fault.{Fault}
use Rattle.epsdelta_jumps.specs.declared.jumps.Fault.TheVariants.{Refused, Short}

-- a fault: the number of a refusal, or that a list is short
abbrev pub fault_number : Fault → Option ℕ
fault_number (Refused r) = Some (number r)
fault_number Short = None

-- an answer, its fault by number
abbrev pub faulted : {A : Type 0} → Result A Fault → Result A (Option ℕ)
faulted (Ok x) = Ok x
faulted (Err f) = Err (fault_number f)

-- the number of the check that failed, or that a list is short, or none
abbrev pub settled : ℕ → Bool → Result (Unit {0}) (Option ℕ)
settled zero true = Err None
settled zero false = Ok tt
settled (suc r) b = Err (Some (suc r))

-- checks 3 to 6 of both models, and then whether a list is short
unfoldable pub joined : Shape → Columns → Shape → Columns → Bool → Result (Unit {0}) (Option ℕ)
unfolding models_refusal
joined SL ML SR MR short = settled (models_refusal SL ML SR MR 0) short
