-- Two models side by side.
use Rattle.std.specs.Prelude.{ℕ, ◌+◌, ◌≤◌, List, ◌++◌, take}
use Rattle.bisim_core.specs.Data.{Columns, columns_of}
use Rattle.bisim_core.specs.declared.wlts.Shape.{Shape}
use Rattle.epsdelta.specs.declared.asked.Sides.{Sides}

-- how many states both have
abbrev pub together : Sides → ℕ
together B = B.left.model.shape.states + B.right.model.shape.states

-- neither has many
abbrev pub EachFew : Sides → Type 0
EachFew B = (B.left.model.shape.states ≤ 2000) × (B.right.model.shape.states ≤ 2000)

-- the classes of both
abbrev pub classes_of : Sides → List ℕ
classes_of B = take B.left.model.shape.states B.left.classes.now ++ take B.right.model.shape.states B.right.classes.now

-- what is said of two models and their classes, of these
abbrev pub of_sides : {A : Type 0} → (Shape → Columns → Shape → Columns → List ℕ → List ℕ → A) → Sides → A
of_sides f B = f B.left.model.shape (columns_of B.left.model) B.right.model.shape (columns_of B.right.model) B.left.classes.now B.right.classes.now
