-- A walk through the imports, depth first, and what is kept over its steps.
use Rattle.std.specs.Prelude.{◌≡◌, ◌⊎◌, ℕ, ◌+◌, ◌-◌, ◌<◌, List, [], ◌∷◌, ◌++◌, length, reverse, take, drop, slice_index_or}
use Rattle.std.specs.List.{concat}
use Rattle.import_order.specs.declared.walk.Mark.{Mark}
use Rattle.import_order.specs.declared.walk.Mark.TheVariants.{Unseen, Open, Done}
use Rattle.import_order.specs.declared.walk.Frame.{Frame}
use Rattle.import_order.specs.declared.walk.Walk.{Walk}
use Rattle.import_order.specs.Imports.{Has, imports_of}
use Rattle.import_order.specs.Order.{firsts, IsClosure, AreClosures}

abbrev pub mark_of : List Mark → ℕ → Mark
mark_of marks m = slice_index_or marks m Unseen

-- the modules of frames
abbrev pub open_in : List Frame → List ℕ
open_in [] = []
open_in (frame ∷ below) = frame.importer ∷ open_in below

-- a module has a closure whose modules stand in the order
pub record IsHeld (graph : List (List ℕ)) (order : List ℕ) (m : ℕ) : Type 0 where
  pub closure : List ℕ
  pub is : IsClosure graph m closure
  pub held : (x : ℕ) → Has closure x → Has order x

-- Done are the modules of the order, open those of the frames.
pub record AreMarks (marks : List Mark) (opened order : List ℕ) : Type 0 where
  pub in_order : (m : ℕ) → mark_of marks m ≡ Done → Has order m
  pub in_frames : (m : ℕ) → mark_of marks m ≡ Open → Has opened m
  pub is_done : (m : ℕ) → Has order m → mark_of marks m ≡ Done
  pub is_open : (m : ℕ) → Has opened m → mark_of marks m ≡ Open

-- Of each frame, the top one first, the imports that were looked at stand in the order, but for that of the frame above,
-- and that one is an import.
abbrev pub AreLinked : List (List ℕ) → List ℕ → List ℕ → List Frame → Type 0
AreLinked graph order above [] = Unit {0}
AreLinked graph order above (frame ∷ below) =
    ((x : ℕ) → Has (take frame.next (imports_of graph frame.importer)) x → Has (above ++ order) x)
    × ((x : ℕ) → Has above x → Has (imports_of graph frame.importer) x)
    × AreLinked graph order (frame.importer ∷ []) below

-- no number stands twice
abbrev pub AreApart : List ℕ → Type 0
AreApart [] = Unit {0}
AreApart (x ∷ xs) = (Has xs x → ⊥) × AreApart xs

-- what holds between two steps of a walk; the frames stand with the top one first
pub record IsWalking (graph : List (List ℕ)) (marks : List Mark) (frames : List Frame) (order : List ℕ) : Type 0 where
  pub long : length marks ≡ length graph
  pub once : firsts order ≡ order
  pub held : (m : ℕ) → Has order m → IsHeld graph order m
  pub marked : AreMarks marks (open_in frames) order
  pub apart : AreApart (open_in frames)
  pub linked : AreLinked graph order [] frames
  pub within : (m : ℕ) → Has (open_in frames) m → m < length graph

abbrev pub IsWalk : List (List ℕ) → Walk → Type 0
IsWalk graph walk = IsWalking graph walk.marks.items (reverse walk.frames.items) walk.order.items

-- The order that the frames lead to: of each, the top one first, the closures of the imports that are left, and its module.
abbrev pub LeadsTo : List (List ℕ) → List Frame → List ℕ → List ℕ → Type 0
LeadsTo graph [] order last = order ≡ last
LeadsTo graph (frame ∷ below) order last =
    (parts : List (List ℕ)) × AreClosures graph (drop frame.next (imports_of graph frame.importer)) parts
    × LeadsTo graph below (firsts (order ++ (concat parts ++ frame.importer ∷ []))) last

-- the steps that a module which is not seen is worth
abbrev pub worth : Mark → ℕ → ℕ
worth Unseen n = n + 2
worth Open n = 0
worth Done n = 0

abbrev pub worth_of : List (List ℕ) → List Mark → ℕ
worth_of [] marks = 0
worth_of (imports ∷ graph) [] = 0
worth_of (imports ∷ graph) (mark ∷ marks) = worth mark (length imports) + worth_of graph marks

abbrev pub steps_of : List (List ℕ) → List Frame → ℕ
steps_of graph [] = 0
steps_of graph (frame ∷ below) = ((length (imports_of graph frame.importer) - frame.next) + 1) + steps_of graph below

-- the steps that are left
abbrev pub steps_left : List (List ℕ) → Walk → ℕ
steps_left graph walk = worth_of graph walk.marks.items + steps_of graph (reverse walk.frames.items)

-- a module is one of some, or one that one of these imports
abbrev pub IsNext : List (List ℕ) → List ℕ → ℕ → Type 0
IsNext graph ms x = Has ms x ⊎ ((m : ℕ) × Has ms m × Has (imports_of graph m) x)

-- a step takes a walk on: it leads to what the walk before it led to, in fewer steps, and opens
-- only what an open module imports
pub record IsStep (graph : List (List ℕ)) (marks : List Mark) (frames : List Frame) (order : List ℕ) (walk : Walk) : Type 0 where
  pub walking : IsWalk graph walk
  pub leads : (last : List ℕ) → LeadsTo graph (reverse walk.frames.items) walk.order.items last → LeadsTo graph frames order last
  pub fewer : steps_left graph walk < worth_of graph marks + steps_of graph frames
  pub opened : (x : ℕ) → Has (open_in (reverse walk.frames.items)) x → IsNext graph (open_in frames) x

-- a root was visited: its closure is added to the order
pub record IsVisited (graph : List (List ℕ)) (root : ℕ) (old new : List ℕ) : Type 0 where
  pub closure : List ℕ
  pub is : IsClosure graph root closure
  pub added : new ≡ firsts (old ++ closure)
