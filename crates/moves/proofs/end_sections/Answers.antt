use native.Mathlib.Omega.{arith}
use mathlib.Core.Path.{refl, sym, ◌∙◌}
use Prim.Native.Nat.{◌-◌, ◌/◌}
use lib.ListN.{length}
use borrow.Author.Tests.{leb-true, leb-false}
use Rattle.moves.proofs.SectionLaws.{sections-bad, sections-full, sections-on}
use Rattle.moves.proofs.end_sections.Goals as goal

pub returns-then-not-all_before : goal.returns-then-not-all_before
returns-then-not-all_before c =
    let a = c.args in
    let f = c.refuse.ensures in record { by_index = (λ k l v. f.0 a.events.now k l v ∙ sections-bad a.st a.events.now a.os.now a.pos a.a c.requires.1 k l v (sym c.all_before.ensures.0 ∙ c.if-not-all_before.true)); words_in_bounds = (omega (arith, f.1, c.requires.1), f.4) }

pub returns-then-not-has_room : goal.returns-then-not-has_room
returns-then-not-has_room c =
    let a = c.args in
    let f = c.refuse-then-not-has_room.ensures in record { by_index = (λ k l v. f.0 a.events.now k l v ∙ sections-full a.st a.events.now a.os.now a.pos a.a c.requires.1 k l v (sym c.all_before.ensures.0 ∙ c.if-not-all_before.false) (leb-false (length a.os.now) ((length a.events.now - a.st.words) / 8) (sym c.has_room.ensures ∙ c.if-not-has_room.true))); words_in_bounds = (omega (arith, f.1, c.requires.1), f.4) }

pub overflow_mul-n : goal.overflow_mul-n
overflow_mul-n c = omega (arith, leb-true (length c.args.os.now) ((length c.args.events.now - c.args.st.words) / 8) (sym c.has_room.ensures ∙ c.if-not-has_room.false))

pub lift-requires : goal.lift-requires
lift-requires c = (c.requires.0, omega (arith, leb-true (length c.args.os.now) ((length c.args.events.now - c.args.st.words) / 8) (sym c.has_room.ensures ∙ c.if-not-has_room.false), c.requires.1))

pub fill_exits-requires : goal.fill_exits-requires
fill_exits-requires c = (omega (arith, leb-true (length c.args.os.now) ((length c.args.events.now - c.args.st.words) / 8) (sym c.has_room.ensures ∙ c.if-not-has_room.false), c.requires.1, c.requires.0, c.lift.auto.events), c.all_before.ensures.1 c.if-not-all_before.false)

pub overflow_mul-r : goal.overflow_mul-r
overflow_mul-r c = omega (arith, leb-true (length c.args.os.now) ((length c.args.events.now - c.args.st.words) / 8) (sym c.has_room.ensures ∙ c.if-not-has_room.false))

pub overflow_add-r : goal.overflow_add-r
overflow_add-r c = omega (arith, leb-true (length c.args.os.now) ((length c.args.events.now - c.args.st.words) / 8) (sym c.has_room.ensures ∙ c.if-not-has_room.false), c.requires.1)

pub returns : goal.returns
returns c =
    let a = c.args in record { by_index = (λ k l v. sections-on a.st a.events.now a.os.now a.pos a.a c.requires.1 k l v (sym c.all_before.ensures.0 ∙ c.if-not-all_before.false) (leb-true (length c.args.os.now) ((length c.args.events.now - c.args.st.words) / 8) (sym c.has_room.ensures ∙ c.if-not-has_room.false)) c.requires.0 (c.all_before.ensures.1 c.if-not-all_before.false) c.lift.new.events c.fill_exits.new.events c.lift.ensures c.fill_exits.ensures (c.fill_exits.auto.events ∙ c.lift.auto.events)); words_in_bounds = (omega (arith, leb-true (length c.args.os.now) ((length c.args.events.now - c.args.st.words) / 8) (sym c.has_room.ensures ∙ c.if-not-has_room.false), c.requires.1, c.fill_exits.auto.events, c.lift.auto.events), record { depth = refl; lists = refl; sections = refl }) }
