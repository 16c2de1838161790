-- The list that is open where a block starts: it goes on or ends, and it becomes loose. Assumes nothing.
use Prim.Native.Nat.{ℕ, ◌+◌, ◌-◌, ◌*◌, ◌≤◌, ◌<◌}
use mathlib.Core.Path.{◌≡◌, sym, ◌∙◌}
use mathlib.Core.Bool.{Bool, true, false}
use mathlib.Core.List.{List}
use native.Mathlib.Omega.{arith}
use lib.Dec.{eqb, ltb}
use lib.ListN.{length, take, get_or}
use lib.Seq.{length-take-le}
use borrow.Author.Tests.{eq-eqb, ne_eqb, lt-ltb, le-ltb}
use Rattle.classes.specs.Choice.{pick, both}
use Rattle.markers.specs.Lists.{continues_of}
use Rattle.markers.specs.declared.Marker.{Marker}
use Rattle.markers.specs.declared.Continued.{Continued}
use Rattle.std.specs.Prelude.{Option, Some, None}
use Rattle.measure.specs.Continue.{kind_num}
use Rattle.events.specs.State.{State, with_flags, refuse_of}
use Rattle.events.specs.Events.{patch_of, whole_at}
use Rattle.events.specs.View.{view}
use Rattle.events.specs.declared.St.{St}
use Rattle.lists.specs.Lists.{same_type, last_list_of, set_list_of, close_list_of}
use Rattle.lists.specs.declared.OpenList.{OpenList}
use Rattle.walk.specs.Fields.{marker_in}
use Rattle.walk.specs.Tree.{go_on, settle_of, loose_at, loosen_of}
use Rattle.walk.specs.declared.Met.{Met}

-- ---- an item that goes on
pub marker-yes : (b : Bool) (p q : Marker) → b ≡ true → p ≡ pick b p q
marker-yes b p q e = sym (rw e)

pub marker-no : (b : Bool) (p q : Marker) → b ≡ false → q ≡ pick b p q
marker-no b p q e = sym (rw e)

pub goes-not : (o : OpenList) (pos : ℕ) (c : Option Continued) (s : State) → c ≡ None → close_list_of pos s ≡ go_on o pos c s
goes-not o pos c s e = sym (rw e)

pub goes_on : (o : OpenList) (pos : ℕ) (c : Option Continued) (on : Continued) (t : Marker) (s : State) → c ≡ Some on → t ≡ pick (same_type o.start o.prev) on.prev o.start
    → set_list_of (record { start = t; prev = on.next; depth = o.depth }) s ≡ go_on o pos c s
goes_on o pos c on t s e f = sym (rw (e, f))

-- ---- the list here
some-list : (st : St) (ls : List ℕ) → st.lists * 5 ≤ length ls → (st.lists ≡ 0 → ⊥) → eqb (length (take (st.lists * 5) ls)) 0 ≡ false
some-list st ls h ne = let q = length-take-le (st.lists * 5) ls h in ne_eqb (length (take (st.lists * 5) ls)) 0 (λ z. ne (omega (arith, q, z)))

module _ (m : Met) (st : St) (ev sk ls v : List ℕ) where
  pub settle-none : st.lists ≡ 0 → view st ev sk ls v ≡ settle_of m (view st ev sk ls v)
  unfolding settle_of
  settle-none e = sym (rw e)

  module _ (h : st.lists * 5 ≤ length ls) (d : st.depth ≤ length sk) (ne : st.lists ≡ 0 → ⊥) (o : OpenList) (p : o ≡ last_list_of (view st ev sk ls v)) where
    pub settle_other : (o.depth ≡ st.depth → ⊥) → view st ev sk ls v ≡ settle_of m (view st ev sk ls v)
    unfolding settle_of
    settle_other g = sym (rw (some-list st ls h ne, ← p, length-take-le st.depth sk d, ne_eqb o.depth st.depth g))

    module _ (g : o.depth ≡ st.depth) (n : ℕ) (e : n ≡ kind_num m.kind) where
      pub settle-close : (n ≡ 9 → ⊥) → close_list_of m.start (view st ev sk ls v) ≡ settle_of m (view st ev sk ls v)
      unfolding settle_of
      settle-close f = sym (rw (some-list st ls h ne, ← p, length-take-le st.depth sk d, eq-eqb o.depth st.depth g, ne_eqb (kind_num m.kind) 9 (λ z. f (e ∙ z))))

      pub settle-item : n ≡ 9 → (c : Option Continued) → c ≡ continues_of o.prev (marker_in m.kind) → go_on o m.start c (view st ev sk ls v) ≡ settle_of m (view st ev sk ls v)
      unfolding settle_of
      settle-item f c q = sym (rw (some-list st ls h ne, ← p, length-take-le st.depth sk d, eq-eqb o.depth st.depth g, eq-eqb (kind_num m.kind) 9 (sym e ∙ f), ← q))

-- ---- a blank line before
module _ (e : ℕ) (s : State) where
  pub loose-part : whole_at s.evs e ≡ false → refuse_of 7 s ≡ loose_at e s
  unfolding loose_at
  loose-part f = sym (rw f)

  module _ (f : whole_at s.evs e ≡ true) (x : ℕ) (p : get_or s.evs (e + 4) 0 ≡ x) where
    pub loose-already : (x ≡ 1 → ⊥) → with_flags false false s ≡ loose_at e s
    unfolding loose_at
    loose-already g = sym (rw (f, p, ne_eqb x 1 g))

    pub loose_now : x ≡ 1 → (t : State) → t ≡ patch_of (e + 4) 0 s → with_flags false true t ≡ loose_at e s
    unfolding loose_at
    loose_now g t q = sym (rw (f, p, eq-eqb x 1 g, ← q))

-- no item that begins a list inside the innermost, whose items are at depth d
module _ (m : Met) (n : ℕ) (e : n ≡ kind_num m.kind) (d depth : ℕ) where
  pub not-item : (n ≡ 9 → ⊥) → both (eqb (kind_num m.kind) 9) (ltb d depth) ≡ false
  not-item i = rw (ne_eqb (kind_num m.kind) 9 (λ z. i (e ∙ z)))

  pub item-here : n ≡ 9 → depth ≤ d → both (eqb (kind_num m.kind) 9) (ltb d depth) ≡ false
  item-here i w = rw (eq-eqb (kind_num m.kind) 9 (sym e ∙ i), le-ltb d depth w)

module _ (m : Met) (st : St) (ev sk ls v : List ℕ) (n : ℕ) (e : n ≡ kind_num m.kind) where
  pub loosen-blank : n ≡ 1 → with_flags true st.loose (view st ev sk ls v) ≡ loosen_of m (view st ev sk ls v)
  unfolding loosen_of
  loosen-blank h = sym (rw (eq-eqb (kind_num m.kind) 1 (sym e ∙ h)))

  module _ (h : n ≡ 1 → ⊥) where
    not-blank : eqb (kind_num m.kind) 1 ≡ false
    not-blank = ne_eqb (kind_num m.kind) 1 (λ z. h (e ∙ z))

    pub loosen-after : st.blank ≡ false → with_flags false false (view st ev sk ls v) ≡ loosen_of m (view st ev sk ls v)
    unfolding loosen_of
    loosen-after b = sym (rw (not-blank, b))

    module _ (b : st.blank ≡ true) where
      pub loosen-none : st.lists ≡ 0 → with_flags false false (view st ev sk ls v) ≡ loosen_of m (view st ev sk ls v)
      unfolding loosen_of
      loosen-none l = sym (rw (not-blank, b, l))

      module _ (f : st.lists * 5 ≤ length ls) (d : st.depth ≤ length sk) (ne : st.lists ≡ 0 → ⊥) (o : OpenList) (p : o ≡ last_list_of (view st ev sk ls v)) where
        pub loosen-deeper : st.depth < o.depth → refuse_of 7 (view st ev sk ls v) ≡ loosen_of m (view st ev sk ls v)
        unfolding loosen_of
        loosen-deeper g = sym (rw (← p, not-blank, b, some-list st ls f ne, length-take-le st.depth sk d, lt-ltb st.depth o.depth g))

        module _ (g : o.depth ≤ st.depth) where
          pub loosen-outside : o.depth ≡ 0 → with_flags false false (view st ev sk ls v) ≡ loosen_of m (view st ev sk ls v)
          unfolding loosen_of
          loosen-outside z = sym (rw (← p, not-blank, b, some-list st ls f ne, length-take-le st.depth sk d, le-ltb st.depth o.depth g, eq-eqb o.depth 0 z))

          module _ (z : o.depth ≡ 0 → ⊥) where
            pub loosen-begins : n ≡ 9 → o.depth < st.depth → with_flags false false (view st ev sk ls v) ≡ loosen_of m (view st ev sk ls v)
            unfolding loosen_of
            loosen-begins i w = sym (rw (← p, not-blank, b, some-list st ls f ne, length-take-le st.depth sk d, le-ltb st.depth o.depth g, ne_eqb o.depth 0 z, eq-eqb (kind_num m.kind) 9 (sym e ∙ i), lt-ltb o.depth st.depth w))

            pub loosen-here : both (eqb (kind_num m.kind) 9) (ltb o.depth st.depth) ≡ false → (x : ℕ) → x ≡ get_or (take st.depth sk) (o.depth - 1) 0
                → loose_at x (view st ev sk ls v) ≡ loosen_of m (view st ev sk ls v)
            unfolding loosen_of
            loosen-here i x q =
                sym (rw (← p, not-blank, b, some-list st ls f ne, length-take-le st.depth sk d, le-ltb st.depth o.depth g, ne_eqb o.depth 0 z, i, ← q))
