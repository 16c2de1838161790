use Rattle.std.proofs.Common.{◌≡◌, [], ◌∷◌, List, ℕ, get_or, sym, ap, ◌∙◌, subst, arith}
use Rattle.record.specs.Record.{bytes_of}
use Rattle.record.proofs.RecordLaws.{bytes-four}
use Rattle.record.proofs.put_number.Goals as goal

pub returns-in-0 : goal.returns-in-0
unfolding bytes_of
returns-in-0 g c =
    let e = ap (λ (k : ℕ). bytes_of k c.args.x) (sym c.in-0.is) in
    subst (λ (l : List ℕ). g.S.Sink.took c.args.sink.now l c.args.sink.now) e (g.met.S.Sink.laws.none c.args.sink.now)

pub returns-in-1 : goal.returns-in-1
returns-in-1 g c =
    let e = ap (λ (l : List ℕ). get_or l 0 0 ∷ []) c.to_le_bytes.ensures ∙ bytes-four 1 c.args.x (omega arith) ∙ ap (λ (k : ℕ). bytes_of k c.args.x) (sym c.in-1.is) in
    subst (λ (l : List ℕ). g.S.Sink.took c.args.sink.now l c.put.new.self) e c.put.ensures

pub returns-in-2 : goal.returns-in-2
returns-in-2 g c =
    let e = ap (λ (l : List ℕ). get_or l 0 0 ∷ get_or l 1 0 ∷ []) c.to_le_bytes.ensures ∙ bytes-four 2 c.args.x (omega arith) ∙ ap (λ (k : ℕ). bytes_of k c.args.x) (sym c.in-2.is) in
    subst (λ (l : List ℕ). g.S.Sink.took c.args.sink.now l c.put-in-2.new.self) e c.put-in-2.ensures

pub returns-in-3 : goal.returns-in-3
returns-in-3 g c =
    let e = ap (λ (l : List ℕ). get_or l 0 0 ∷ get_or l 1 0 ∷ get_or l 2 0 ∷ []) c.to_le_bytes.ensures ∙ bytes-four 3 c.args.x (omega arith) ∙ ap (λ (k : ℕ). bytes_of k c.args.x) (sym c.in-3.is) in
    subst (λ (l : List ℕ). g.S.Sink.took c.args.sink.now l c.put-in-3.new.self) e c.put-in-3.ensures

pub returns-in_default : goal.returns-in_default
returns-in_default g c =
    let w : 4 ≡ c.args.w = omega arith in
    let e = ap (λ (l : List ℕ). get_or l 0 0 ∷ get_or l 1 0 ∷ get_or l 2 0 ∷ get_or l 3 0 ∷ []) c.to_le_bytes.ensures ∙ bytes-four 4 c.args.x (omega arith) ∙ ap (λ (k : ℕ). bytes_of k c.args.x) w in
    subst (λ (l : List ℕ). g.S.Sink.took c.args.sink.now l c.put-in_default.new.self) e c.put-in_default.ensures
