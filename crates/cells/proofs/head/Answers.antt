use native.Mathlib.Omega.{arith}
use mathlib.Core.Path.{◌≡◌, refl}
use mathlib.Core.List.{List}
use Prim.Native.Nat.{ℕ, ◌≤◌, ◌<◌}
use Rattle.events.specs.View.{view}
use Rattle.walk.specs.Table.{head_of}
use Rattle.cells.specs.Held.{sep_of}
use Rattle.cells.proofs.HeadLaws.{headed, head-stands, head-words, head-held}
use Rattle.cells.proofs.head.Goals as goal

pub realign-cur-requires : goal.realign-cur-requires
realign-cur-requires c = (c.requires.0, omega (arith, c.requires.1, c.least-reach.ensures))

pub overflow_add-row : goal.overflow_add-row
overflow_add-row c = omega (arith, c.requires.0, c.requires.1)

pub patch-requires : goal.patch-requires
patch-requires c = (omega (arith, c.requires.1), omega (arith, c.requires.0, c.realign-cur.auto.events))

pub overflow_add-end : goal.overflow_add-end
overflow_add-end c = omega (arith, c.requires.0, c.requires.1)

pub overflow_mul-end-2 : goal.overflow_mul-end-2
overflow_mul-end-2 c = omega (arith, c.requires.0, c.requires.1)

pub overflow_add-end-2 : goal.overflow_add-end-2
overflow_add-end-2 c = omega (arith, c.requires.0, c.requires.1)

pub overflow_add-end-3 : goal.overflow_add-end-3
overflow_add-end-3 c = omega (arith, c.requires.0, c.requires.1)

pub patch-requires-2 : goal.patch-requires-2
patch-requires-2 c = (omega (arith, c.requires.1), omega (arith, c.requires.0, c.realign-cur.auto.events, c.patch.auto.events))

pub returns : goal.returns
returns c =
    let a = c.args in
    let p = c.realign-cur in
    let q = c.patch in
    let o = c.patch-2 in
    let sep = sep_of a.text.now a.al in
    let m = c.least-reach.result in
    let h : c.least-reach.result ≤ a.n = omega (arith, c.least-reach.ensures) in
    let g : c.least-reach.result < a.n → a.al.cells ≤ c.least-reach.result = λ z. omega (arith, z, c.least-reach.ensures, c.most.ensures.1) in
    let f : (k l v : List ℕ) → view a.st o.new.events k l v ≡ head_of (sep_of a.text.now a.al) a.row a.n (view a.st a.events.now k l v) =
    λ k l v. headed sep a.row a.n m a.al.cells (view a.st a.events.now k l v) (view a.st p.new.events k l v) (view a.st q.new.events k l v) (view a.st o.new.events k l v)
    h g c.requires.2 (λ j i d. c.requires.3 j (omega (arith, i, d, c.least-reach.ensures, c.most.ensures.0)) d) (p.ensures.0 k l v) (q.ensures k l v) (o.ensures k l v) in
    let w = head-words sep a.row a.n a.st a.events.now o.new.events c.requires.0 (omega (arith, c.requires.1)) f in record { by_index = f; held = (head-held a.text.now a.al a.row a.n p.result _ (head-stands sep p.result a.n m a.al.cells h g c.requires.2 p.ensures.1) w, record { s = refl; e = refl; cells = refl }, w) }
