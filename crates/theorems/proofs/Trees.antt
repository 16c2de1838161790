-- The tree of a walk's events: what is open, what nests between, and which lists and terms are among it. Assumes nothing.
use mathlib.Core.Path.{◌≡◌}
use mathlib.Core.Logic.{◌⊎◌}
use mathlib.Core.List.{List, [], ◌∷◌, ◌++◌}
use Prim.Native.Nat.{ℕ, suc, ◌+◌, ◌-◌, ◌*◌, ◌≤◌, ◌<◌}
use lib.ListN.{length}
use Rattle.lines.specs.Lines.{Span}
use Rattle.markers.specs.Markers.{marker_num}
use Rattle.events.specs.State.{State}
use Rattle.events.specs.Events.{width}
use Rattle.events.specs.declared.Event.{Event}
use Rattle.lists.specs.Lists.{list_words}
use Rattle.lists.specs.declared.OpenList.{OpenList}
use Rattle.walk.specs.Fields.{from_of, to_of}
use Rattle.walk.specs.declared.Met.{Met}
use Rattle.theorems.proofs.Proper.{Marked, Proper}
use Rattle.theorems.proofs.Nests.{Whole, Roles, Fine, Fines, Frame, flat, Holds}
use Rattle.theorems.proofs.WholeLaws.{closing}

-- ---- open events
-- an open Enter with k others around it, and what stands before it: at most 100 are open at once, and the first is Document's
pub record Framed (text : List ℕ) (f : Frame) (k : ℕ) : Type 0 where
  pub role : f.enter.role ≡ 1
  pub node : 0 < k → f.enter.node ≡ 1 → ⊥
  pub first : k ≡ 0 → (f.enter.node ≡ 1) × (f.before ≡ [])
  pub fine : Fine text f.enter
  pub whole : Whole (100 - k) f.before
  pub fines : Fines text f.before

abbrev pub Frames : List ℕ → List Frame → Type 0
Frames text [] = Unit {0}
Frames text (f ∷ fs) = Framed text f (length fs) × Frames text fs

pub record Tree (text : List ℕ) (fs : List Frame) (g : List Event) (s : State) : Type 0 where
  pub holds : Holds fs g s
  pub frames : Frames text fs
  pub whole : Whole (100 - length fs) g
  pub fines : Fines text g

-- the same Enters but for their bodies, and the same events before them
abbrev pub Alike : List Frame → List Frame → Type 0
Alike [] [] = Unit {0}
Alike [] (e ∷ es) = ⊥
Alike (f ∷ fs) [] = ⊥
Alike (f ∷ fs) (e ∷ es) =
    (e.before ≡ f.before) × (e.enter.node ≡ f.enter.node) × Alike fs es × (e.enter.role ≡ f.enter.role) × (e.enter.start ≡ f.enter.start)

-- ---- open lists
-- the Enter of an open list is the open event that its depth says, and has its type
pub record Typed (fs : List Frame) (o : OpenList) : Type 0 where
  pub inner : List Frame
  pub frame : Frame
  pub outer : List Frame
  pub whole : fs ≡ inner ++ (frame ∷ outer)
  pub depth : o.depth ≡ suc (length outer)
  pub node : frame.enter.node ≡ marker_num o.start + 3
  pub start : Marked o.start
  pub prev : Marked o.prev
  pub same : marker_num o.prev ≡ marker_num o.start

-- all of them, the innermost first
abbrev pub AllTyped : List Frame → List OpenList → Type 0
AllTyped fs [] = Unit {0}
AllTyped fs (o ∷ os) = Typed fs o × AllTyped fs os

-- their words
unfoldable pub lists_words : List OpenList → List ℕ
lists_words [] = []
lists_words (o ∷ os) = lists_words os ++ list_words o

-- ---- description terms
-- the events before a description item end with an empty term
pub record Termed (h : ℕ) (before : List Event) : Type 0 where
  pub front : List Event
  pub enter : Event
  pub from : ℕ
  pub to : ℕ
  pub is : before ≡ front ++ (enter ∷ (closing enter from to ∷ []))
  pub role : enter.role ≡ 1
  pub node : enter.node ≡ 17
  pub bare : (enter.a ≡ 0) × (enter.b ≡ 0) × (enter.c ≡ 0) × (enter.d ≡ 0)
  pub whole : Whole h front

-- the first of a level's events is no paragraph's Enter, or the paragraph stands whole, with Inlines alone in it
pub record Paragraph (h : ℕ) (g : List Event) : Type 0 where
  pub enter : Event
  pub lines : List Event
  pub from : ℕ
  pub to : ℕ
  pub rest : List Event
  pub is : g ≡ enter ∷ (lines ++ (closing enter from to ∷ rest))
  pub role : enter.role ≡ 1
  pub node : enter.node ≡ 15
  pub bare : (enter.a ≡ 0) × (enter.b ≡ 0) × (enter.c ≡ 0) × (enter.d ≡ 0)
  pub inlines : Roles 3 lines
  pub whole : Whole h rest

abbrev pub NoParagraph : List Event → Type 0
NoParagraph [] = Unit {0}
NoParagraph (x ∷ xs) = x.role ≡ 1 → x.node ≡ 15 → ⊥

abbrev pub Led : ℕ → List Event → Type 0
Led h g = NoParagraph g ⊎ Paragraph h g

-- ---- attributes just before
pub record Attributes (fs : List Frame) (g : List Event) (s : State) : Type 0 where
  pub front : List Event
  pub behind : List Event
  pub is : g ≡ front ++ behind
  pub atoms : Roles 4 behind
  pub some : 1 ≤ length behind
  pub place : s.attr ≡ suc (width * length (flat fs ++ front))

-- there are none, or the state knows where they start
abbrev pub Attributed : List Frame → List Event → State → Type 0
Attributed fs g s = (s.attr ≡ 0) ⊎ Attributes fs g s

-- ---- spans
-- lines are parts of the text
abbrev pub Inside : List ℕ → List Span → Type 0
Inside text [] = Unit {0}
Inside text (l ∷ ls) = (l.start ≤ l.end) × (l.end ≤ length text) × Inside text ls

-- of a block whose first line starts at `line`
pub record Fit (text : List ℕ) (m : Met) (line : ℕ) : Type 0 where
  pub start : m.start ≤ m.end
  pub end : m.end ≤ length text
  pub from : m.from ≤ m.to
  pub to : m.to ≤ length text
  pub pair : line + from_of m.kind ≤ line + to_of m.kind
  pub last : line + to_of m.kind ≤ length text
  pub proper : Proper (length text) m.kind
