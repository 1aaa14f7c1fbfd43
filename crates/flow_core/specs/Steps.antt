-- What the levels, a phase, and a path in it, ask of the parts of the run. Words of private contracts.
use Rattle.std.specs.Prelude.{ℕ, List, [], Float}
use Rattle.flow_theory.specs.Augment.{Walked, walk, walk_fuel}
use Rattle.flow_theory.proofs.LevelRows.{Scannable, Scanned}
use Rattle.flow_theory.proofs.PathRows.{Walkable}
use Rattle.flow_theory.proofs.RunRows.{Runnable, PhaseReady}
use Rattle.flow_check.specs.Lent.{net_on, leaving}
use Rattle.flow_check.specs.declared.Network.{Network}
use Rattle.flow_check.specs.declared.Course.{Course}
use Rattle.flow_core.specs.declared.augment.Phase.{Phase}
use Rattle.flow_core.specs.declared.levels.Queue.{Queue}

-- the links that leave node u may be looked along, with these levels and this queue
abbrev pub NodeScannable : Network → List Float → ℕ → List ℕ → Queue → Type 0
NodeScannable N c u L Q = Scannable N.heads.now (leaving N u) c u L Q.nodes Q.end

-- they were: levels and queue are those of the definition
abbrev pub NodeScanned : Network → List Float → ℕ → List ℕ → Queue → List ℕ → Queue → Type 0
NodeScanned N c u L Q L' Q' = Scanned N.heads.now (leaving N u) c u L Q.nodes L' Q'.nodes Q.end Q'.end

-- a run may go on from these capacities
abbrev pub CourseRunnable : Course → List Float → Type 0
CourseRunnable K c = Runnable (net_on K) K.net.starts.now K.net.list.now c

-- a phase may begin with these marks
abbrev pub PhaseOpen : Phase → List Float → List ℕ → Type 0
PhaseOpen P c nx = PhaseReady (net_on P.course) P.course.net.starts.now P.course.net.list.now c P.level.now nx

-- a path may be looked for from these marks on
abbrev pub PhaseWalkable : Phase → List Float → List ℕ → Type 0
PhaseWalkable P c nx = Walkable (net_on P.course) P.course.net.starts.now P.course.net.list.now c P.level.now nx

-- how the definition's search for it ends
abbrev pub walked : Phase → List Float → List ℕ → Walked
walked P c nx = walk (net_on P.course) c P.level.now (walk_fuel (net_on P.course)) (record { at = P.course.ends.source; path = []; next = nx })
