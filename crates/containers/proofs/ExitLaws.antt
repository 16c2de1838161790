-- The Exits of a container: its term, the list that is open inside, its own, one law a return. Assumes nothing.
use mathlib.Core.Path.{◌≡◌, sym, ap, ◌∙◌}
use mathlib.Core.Bool.{Bool, true, false}
use mathlib.Core.List.{List}
use Prim.Native.Nat.{ℕ, ◌*◌, ◌≤◌}
use native.Mathlib.Omega.{arith}
use lib.Dec.{eqb}
use lib.ListN.{length, take}
use lib.Seq.{length-take-le}
use borrow.Author.Tests.{eq-eqb, ne_eqb}
use Rattle.classes.specs.Choice.{pick}
use Rattle.markers.specs.Markers.{marker_num}
use Rattle.events.specs.State.{State, with_flags, go}
use Rattle.events.specs.Events.{exit_of}
use Rattle.events.specs.View.{view}
use Rattle.events.specs.declared.St.{St}
use Rattle.events.proofs.GoLaws.{go_on, go-stop}
use Rattle.lists.specs.Lists.{last_list_of, close_list_of}
use Rattle.lists.specs.declared.OpenList.{OpenList}
use Rattle.lists.proofs.ListLaws.{view-lists}
use Rattle.walk.specs.Fields.{marker_in}
use Rattle.walk.specs.Tree.{list_here, settle_term, close_inner, close_container}
use Rattle.walk.specs.declared.Met.{Met}

-- ---- the list that is open inside
module _ (pos : ℕ) (s : State) where
  is-here : list_here s ≡ true → close_list_of pos (with_flags false false s) ≡ close_inner pos s
  unfolding close_inner
  is-here e = sym (ap (λ (t : Bool). pick t (close_list_of pos (with_flags false false s)) s) e)

  not-here : list_here s ≡ false → s ≡ close_inner pos s
  unfolding close_inner
  not-here e = sym (ap (λ (t : Bool). pick t (close_list_of pos (with_flags false false s)) s) e)

module _ (pos : ℕ) (st : St) (ev sk ls v : List ℕ) where
  pub inner-none : st.lists ≡ 0 → view st ev sk ls v ≡ close_inner pos (view st ev sk ls v)
  inner-none e = not-here pos (view st ev sk ls v) (rw e)

  module _ (h : st.lists * 5 ≤ length ls) (ne : st.lists ≡ 0 → ⊥) (o : OpenList) (p : o ≡ last_list_of (view st ev sk ls v)) (d : st.depth ≤ length sk) where
    here : (b : Bool) → eqb o.depth st.depth ≡ b → list_here (view st ev sk ls v) ≡ b
    here b e =
        let q = view-lists st ls h ev sk v in
        let n : length (take (st.lists * 5) ls) ≡ 0 → ⊥ = λ z. ne (omega (arith, q, z)) in
        rw (ne_eqb (length (take (st.lists * 5) ls)) 0 n, length-take-le st.depth sk d, ← p) e

    pub inner-other : (o.depth ≡ st.depth → ⊥) → view st ev sk ls v ≡ close_inner pos (view st ev sk ls v)
    inner-other f = not-here pos (view st ev sk ls v) (here false (ne_eqb o.depth st.depth f))

    pub inner-here : o.depth ≡ st.depth → close_list_of pos (with_flags false false (view st ev sk ls v)) ≡ close_inner pos (view st ev sk ls v)
    inner-here f = is-here pos (view st ev sk ls v) (here true (eq-eqb o.depth st.depth f))

-- ---- all of them
module _ (m : Met) (d : ℕ) (s a : State) (p : a ≡ pick (eqb (marker_num (marker_in m.kind)) 4) (settle_term d s) s) where
  abbrev after : State → State
  after y = go (close_inner m.from y) (exit_of m.from m.to)

  closes : close_container m d s ≡ go a after
  unfolding close_container
  closes = ap (λ (y : State). go y after) (sym p)

  pub close-1 : (a.number ≡ 0 → ⊥) → a ≡ close_container m d s
  close-1 z = sym (closes ∙ go-stop a after z)

  module _ (za : a.number ≡ 0) (b : State) (q : b ≡ close_inner m.from a) where
    closes-own : close_container m d s ≡ go b (exit_of m.from m.to)
    closes-own = closes ∙ go_on a after za ∙ ap (λ (y : State). go y (exit_of m.from m.to)) (sym q)

    pub close-2 : (b.number ≡ 0 → ⊥) → b ≡ close_container m d s
    close-2 z = sym (closes-own ∙ go-stop b (exit_of m.from m.to) z)

    pub close-3 : b.number ≡ 0 → exit_of m.from m.to b ≡ close_container m d s
    close-3 z = sym (closes-own ∙ go_on b (exit_of m.from m.to) z)
