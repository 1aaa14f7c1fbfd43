-- What `both_models` answers of two outcomes of `build`.
use Rattle.std.specs.Prelude.{ℕ, min}
use Rattle.bisim_core.specs.declared.wlts.Shape.{Shape}
use Rattle.std.specs.Prelude.{Result, Ok, Err}

-- the left model with the right one, or the number that refuses it
abbrev pub with_left : Shape → Result Shape ℕ → Result (Shape × Shape) ℕ
with_left SL (Ok SR) = Ok (SL, SR)
with_left SL (Err n) = Err n

-- the lower number, where m refuses the left model
abbrev pub lower : ℕ → Result Shape ℕ → ℕ
lower m (Ok SR) = m
lower m (Err n) = min m n

-- both models, or the lower number that refuses one
abbrev pub both : Result Shape ℕ → Result Shape ℕ → Result (Shape × Shape) ℕ
both (Ok SL) right = with_left SL right
both (Err m) right = Err (lower m right)
