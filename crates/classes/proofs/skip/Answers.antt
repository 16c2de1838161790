use Rattle.std.proofs.Common.{rules, tests, ◌≡◌, ◌∙◌, ap, sym, refl, ℕ, ◌/◌, ◌%◌, ◌*◌, ◌+◌, ◌<◌, not, true, false, get_or, arith, Some, None}
use Rattle.std.specs.List.{list_all}
use Rattle.std.specs.Slice.Iter.{chunks_exact_size, chunks_exact_rest}
use Rattle.classes.proofs.FindLaws.{none_at}
use Rattle.classes.proofs.skip.Goals as goal

pub returns-clause-none : goal.returns-clause-none
returns-clause-none g c = λ p acts i h.
    let w = c.count.ensures.runs in
    let t = c.take_while.ensures.runs w.0 w.0.seen w.1 in
    let size : chunks_exact_size t.0.from ≡ 16 = ap chunks_exact_size t.1 ∙ c.chunks_exact.ensures.size in
    let rest : chunks_exact_rest t.0.from ≡ c.args.s.now = ap chunks_exact_rest t.1 ∙ c.chunks_exact.ensures.rest in
    let e = rw (size, rest) at (c.chunks_exact.ensures.runs t.0 t.0.seen) (omega (arith, size)) in
    let a = t.2.2 (λ a r f k. search rules) in
    let k = i / 16 in
    let b : k < w.0.len = omega (arith, w.3) in
    elim (w.0.at k) as (λ o. w.0.at k ≡ o → p (get_or c.args.s.now i 0) ≡ false) [
      | None ↦ λ q. absurd (cc (rw q at (w.0.reads k c.args.s b)))
      | Some x ↦ λ q.
          let call = rw q at (a.0 k) in
          let chunk = rw (t.2.1 k b ∙ q) at (e.2 k) in
          let v : list_all (λ y. not (p y)) x.now ≡ true = search (rules, tests, call, acts) in
          let m : k * 16 + i % 16 ≡ i = omega arith in
          ap p (sym (chunk.2.2 (i % 16) 0 (omega arith) ∙ ap (λ (n : ℕ). get_or c.args.s.now n 0) m)) ∙ none_at p x.now (i % 16) v (omega (arith, chunk.0))
    ] refl
