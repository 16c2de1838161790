-- How the innermost list ends, one law a return. Assumes nothing.
use Prim.Native.Nat.{ℕ, ◌-◌, ◌*◌, ◌≤◌, ◌<◌}
use mathlib.Core.Path.{◌≡◌, sym, ◌∙◌}
use mathlib.Core.Bool.{true, false}
use mathlib.Core.List.{List}
use native.Mathlib.Omega.{arith}
use lib.ListN.{length, take, get_or}
use lib.Seq.{length-take-le, get_or-take}
use borrow.Author.Tests.{eq-eqb, ne_eqb, lt-ltb, le-ltb}
use Rattle.events.specs.State.{refuse_of, go}
use Rattle.events.specs.Events.{whole_at, exit_of}
use Rattle.events.specs.View.{view}
use Rattle.events.specs.declared.St.{St}
use Rattle.events.proofs.GoLaws.{go_on, go-stop}
use Rattle.lists.specs.Lists.{last_list_of, pop_list_of, retype_of, end_of, close_of, close_list_of}
use Rattle.lists.specs.declared.OpenList.{OpenList}
use Rattle.lists.proofs.ListLaws.{view-lists}

module _ (pos : ℕ) (st : St) (ev sk ls v : List ℕ) where
  pub close-none : st.lists ≡ 0 → refuse_of 7 (view st ev sk ls v) ≡ close_list_of pos (view st ev sk ls v)
  unfolding close_list_of
  close-none e = rw e

  module _ (h : st.lists * 5 ≤ length ls) (ne : st.lists ≡ 0 → ⊥) (o : OpenList) (p : o ≡ last_list_of (view st ev sk ls v)) where
    closing : close_list_of pos (view st ev sk ls v) ≡ close_of pos o (view st ev sk ls v)
    unfolding close_list_of
    closing =
        let q = view-lists st ls h ev sk v in
        let n : length (take (st.lists * 5) ls) ≡ 0 → ⊥ = λ z. ne (omega (arith, q, z)) in
        rw (ne_eqb (length (take (st.lists * 5) ls)) 0 n, ← p)

    pub close-outside : o.depth ≡ 0 → refuse_of 7 (view st ev sk ls v) ≡ close_list_of pos (view st ev sk ls v)
    unfolding close_of
    close-outside e = sym (closing ∙ rw (eq-eqb o.depth 0 e))

    module _ (d : st.depth ≤ length sk) (in_one : o.depth ≡ 0 → ⊥) where
      pub close-deeper : st.depth < o.depth → refuse_of 7 (view st ev sk ls v) ≡ close_list_of pos (view st ev sk ls v)
      unfolding close_of
      close-deeper g =
          let q = length-take-le st.depth sk d in
          sym (closing ∙ rw (ne_eqb o.depth 0 in_one, lt-ltb (length (take st.depth sk)) o.depth (omega arith)))

      module _ (g : o.depth ≤ st.depth) (e : ℕ) (ee : e ≡ get_or sk (o.depth - 1) 0) where
        ending : close_list_of pos (view st ev sk ls v) ≡ end_of pos o e (view st ev sk ls v)
        unfolding close_of
        ending =
            let q = length-take-le st.depth sk d in
            let t : get_or (take st.depth sk) (o.depth - 1) 0 ≡ get_or sk (o.depth - 1) 0 = get_or-take st.depth sk (o.depth - 1) 0 (omega arith) in
            closing ∙ rw (ne_eqb o.depth 0 in_one, le-ltb (length (take st.depth sk)) o.depth (omega arith), t, ← ee)

        pub close-part : whole_at (take st.words ev) e ≡ false → refuse_of 7 (view st ev sk ls v) ≡ close_list_of pos (view st ev sk ls v)
        unfolding end_of
        close-part f = sym (ending ∙ rw f)

        module _ (f : whole_at (take st.words ev) e ≡ true) (ev1 ev2 : List ℕ) (a : St)
            (u : view st ev1 sk ls v ≡ retype_of e o.start (view st ev sk ls v)) (x : view a ev2 sk ls v ≡ exit_of pos pos (view st ev1 sk ls v)) where
          going : close_list_of pos (view st ev sk ls v) ≡ go (view a ev2 sk ls v) pop_list_of
          unfolding end_of
          going = ending ∙ rw (f, ← u, ← x)

          pub close-stop : (a.number ≡ 0 → ⊥) → view a ev2 sk ls v ≡ close_list_of pos (view st ev sk ls v)
          close-stop z = sym (going ∙ go-stop (view a ev2 sk ls v) pop_list_of z)

          pub close-on : a.number ≡ 0 → pop_list_of (view a ev2 sk ls v) ≡ close_list_of pos (view st ev sk ls v)
          close-on z = sym (going ∙ go_on (view a ev2 sk ls v) pop_list_of z)
