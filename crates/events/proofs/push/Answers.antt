use native.Mathlib.Omega.{arith}
use mathlib.Core.Path.{refl, sym, ◌∙◌}
use Prim.Native.Nat.{◌-◌, ◌/◌}
use lib.ListN.{length}
use borrow.Author.Tests.{eqb-false, leb-true, leb-false}
use Rattle.events.proofs.EventLaws.{push-full-view, push-room-view}
use Rattle.events.proofs.push.Goals as goal

pub returns-then-not-has_room : goal.returns-then-not-has_room
returns-then-not-has_room c =
    let a = c.args in
    let f = c.refuse.ensures in record { by_index = λ k l v. f.0 a.events.now k l v ∙ push-full-view a.st a.events.now c.requires k l v a.x (omega (arith, leb-false 1 ((length a.events.now - a.st.words) / 8) (sym c.has_room.ensures ∙ c.if-not-has_room.true))); words_in_bounds = (omega (arith, f.1), λ z. absurd (eqb-false 6 0 refl (sym f.3 ∙ z)), f.4) }

pub put-requires : goal.put-requires
put-requires c = omega (arith, leb-true 1 ((length c.args.events.now - c.args.st.words) / 8) (sym c.has_room.ensures ∙ c.if-not-has_room.false))

pub overflow_add-r : goal.overflow_add-r
overflow_add-r c = omega (arith, leb-true 1 ((length c.args.events.now - c.args.st.words) / 8) (sym c.has_room.ensures ∙ c.if-not-has_room.false))

pub returns : goal.returns
returns c =
    let a = c.args in
    let r = leb-true 1 ((length a.events.now - a.st.words) / 8) (sym c.has_room.ensures ∙ c.if-not-has_room.false) in record { by_index = λ k l v. push-room-view a.st a.events.now c.requires k l v a.x c.put.new.events (omega (arith, r)) c.put.ensures; words_in_bounds = (omega (arith, r, c.put.auto.events), λ z. refl, record { depth = refl; lists = refl; sections = refl }) }
