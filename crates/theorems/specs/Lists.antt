-- How a list that is open ends, said of every block that the walk meets (RULES L2 to L7). Assumes nothing.
use Rattle.std.specs.Prelude.{◌≡◌, Bool, true, false, List, [], ◌∷◌, ℕ, zero, suc, ◌-◌, min, eqb, length, take, is_some}
use Rattle.classes.specs.Choice.{pick, both}
use Rattle.lines.specs.Lines.{Span, lines_of}
use Rattle.markers.specs.Lists.{continues_of}
use Rattle.kinds.specs.declared.Kind.{Kind}
use Rattle.measure.specs.Continue.{blankline_kind, list_item_kind, kind_num}
use Rattle.measure.specs.Measure.{measure_of}
use Rattle.measure.specs.declared.Measured.{Measured}
use Rattle.events.specs.Names.{document_node, list_width}
use Rattle.events.specs.State.{State, with_spare}
use Rattle.events.specs.Events.{enter_of}
use Rattle.lists.specs.Lists.{last_list_of}
use Rattle.walk.specs.Fields.{marker_in, is_container}
use Rattle.walk.specs.Leaf.{node}
use Rattle.walk.specs.Tree.{first_line, met_of, marker_start, list_here, strip_lines, open_container, skip_opening, inner_lines, ready_of, block_of, container_at}
use Rattle.walk.specs.Document.{start}
use Rattle.walk.specs.declared.Met.{Met}
use Rattle.walk.specs.declared.Limits.{Limits}

-- ---- what is said of a block of kind k, met in state s and leaving state r
-- it is an item, and `continues` takes it after the last item of the list that is open here (L3 to L7)
abbrev pub goes_on : Kind → State → Bool
goes_on k s = both (eqb (kind_num k) list_item_kind) (is_some (continues_of (last_list_of s).prev (marker_in k)))

-- the lists that are open around it: all, without the one that is open here (L2)
abbrev pub around : State → List ℕ
around s = pick (list_here s) (take (length s.lst - list_width) s.lst) s.lst

pub record Stays (k : Kind) (s r : State) : Type 0 where
  -- a blank line is never met where a list is open: those behind an item are the item's (H6, O3)
  pub blank : kind_num k ≡ blankline_kind → list_here s ≡ false
  -- an item that goes on leaves the list open, with the same Enter (L2)
  pub item : list_here s ≡ true → goes_on k s ≡ true → (list_here r ≡ true) × (r.opn ≡ s.opn)
  -- whatever it is and holds, the lists around it are as they were (L2)
  pub outside : take (length (around s)) r.lst ≡ around s

-- ---- of every block that the walk meets: as in walk's `run_of`, `block_of`, `container_at`, `document_of`
module _ (text : List ℕ) (lim : Limits) where
  -- the blocks of these lines, of which k belong to a block before, and by `inside` the blocks in them
  abbrev pub InRun : (Measured → List Span → State → State) → (Measured → List Span → State → Type 0) → List Span → ℕ → State → Type 0
  InRun block inside [] k s = Unit {0}
  InRun block inside (l ∷ ls) (suc k) s = InRun block inside ls k s
  InRun block inside (l ∷ ls) zero s =
      let m = measure_of text (l ∷ ls) in
      let n = m.lines - m.given in
      let r = block m (take n (l ∷ ls)) s in
      inside m (take n (l ∷ ls)) s × (r.number ≡ 0 → Stays m.kind s r × InRun block inside ls (n - 1) r)

  -- the blocks in a block, if it is a container
  abbrev pub InBlock : (Met → ℕ → List Span → State → Type 0) → ℕ → Bool → Measured → List Span → State → Type 0
  InBlock inside left top measured ls s =
      let m = met_of measured ls in
      let line = (first_line ls).start in
      let a = ready_of lim left top m (marker_start m line) measured.looks s in
      a.number ≡ 0 → is_container m.kind ≡ true → inside m line (inner_lines m.kind (skip_opening text m ls)) a

  -- the blocks in a container, with so much nesting left
  abbrev pub InContainer : ℕ → Met → ℕ → List Span → State → Type 0
  InContainer zero m line ls s = Unit {0}
  InContainer (suc n) m line ls s =
      let a = open_container text m line (with_spare (min n s.spare) s) in
      a.number ≡ 0 → InRun (block_of text lim (container_at text lim n) n false) (InBlock (InContainer n) n false) (strip_lines text m.kind (m.end - line) ls) 0 a

  -- the blocks in the text
  abbrev pub InText : ℕ → Type 0
  InText cap =
      let n = lim.nesting in
      let a = enter_of (node document_node 0 0 0 0 0 0) (start cap n) in
      a.number ≡ 0 → InRun (block_of text lim (container_at text lim n) n true) (InBlock (InContainer n) n true) (lines_of text) 0 a
