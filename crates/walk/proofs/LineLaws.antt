-- Offsets inside a line stay below the line's words. Assumes nothing.
use Prim.Native.Nat.{ℕ, ◌+◌, ◌≤◌, ◌<◌}
use mathlib.Core.Path.{◌≡◌, ap, ◌∙◌}
use mathlib.Core.List.{List}
use native.Mathlib.Omega.{arith}
use lib.ListN.{length}
use Rattle.lines.specs.Lines.{span}
use Rattle.trim.specs.Trim.{lead, kept, part_of}
use Rattle.trim.proofs.TrimLaws.{part_length}
use Rattle.events.specs.State.{State}
use Rattle.events.specs.Events.{push_of}
use Rattle.events.specs.declared.Event.{Event}
use Rattle.events.specs.declared.Node.{Node}
use Rattle.walk.specs.Fields.{from_of, to_of}
use Rattle.walk.specs.Leaf.{node, pair_node, mark, inline_of, trim_front, trim_back}
use Rattle.walk.specs.declared.Met.{Met}

-- a place inside a part of the text lies before the part's end
pub inside : (text : List ℕ) (s e n m : ℕ) (part : List ℕ) → part ≡ part_of text s e → n ≤ length part → s < m → e < m → s + n < m
inside text s e n m part r h p q =
    let z = (part_length text s e).0 in
    let y : length part ≡ length (part_of text s e) = ap (λ (l : List ℕ). length l) r in
    omega arith

module _ (text : List ℕ) (s e n : ℕ) (part : List ℕ) (p : part ≡ part_of text s e) where
  pub front_at : n ≡ lead part → s + n ≡ (trim_front text (span s e)).start
  front_at q = ap (λ (k : ℕ). s + k) (q ∙ ap (λ (l : List ℕ). lead l) p)

  pub back_at : n ≡ kept part → s + n ≡ (trim_back text (span s e)).end
  back_at q = ap (λ (k : ℕ). s + k) (q ∙ ap (λ (l : List ℕ). kept l) p)

pub inlined : (i j : ℕ) (x : Event) (s : State) → x ≡ mark 3 0 i j 0 → push_of x s ≡ inline_of i j s
unfolding inline_of
inlined i j x s p = ap (λ (y : Event). push_of y s) p

pub paired : (m : Met) (line n i j : ℕ) (x : Node) → i ≡ line + from_of m.kind → j ≡ line + to_of m.kind → x ≡ node n m.start m.end i j 0 0 → x ≡ pair_node m line n
paired m line n i j x p q r = r ∙ rw (p, q)
