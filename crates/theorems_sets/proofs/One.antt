-- Two answers that one contract admits are equal, and so is every lent word: for each exported function, of its own `ensures`. Assumes nothing.
use mathlib.Core.Path.{◌≡◌, sym, ◌∙◌}
use Rattle.sets.proofs.AnswerLaws.{answered-one}
use Rattle.sets.proofs.read.Reads.{Post as Read}
use Rattle.values.proofs.value.Reads.{Post as Value}
use Rattle.pairs.proofs.pairs.Reads.{Post as Pairs}
use Rattle.joins.proofs.join.Reads.{Post as Join}
use Rattle.joins.proofs.text.Reads.{Post as Text}
use Rattle.tolphaneap_sets.proofs.tolphaneap_set_read.Reads.{Post as CRead}
use Rattle.tolphaneap_sets.proofs.tolphaneap_set_value.Reads.{Post as CValue}
use Rattle.tolphaneap_sets.proofs.tolphaneap_set_pairs.Reads.{Post as CPairs}
use Rattle.tolphaneap_sets.proofs.tolphaneap_set_join.Reads.{Post as CJoin}
use Rattle.tolphaneap_sets.proofs.tolphaneap_set_text.Reads.{Post as CText}

-- what equals the same is equal
same : {A : Type 0} {x y z : A} → x ≡ z → y ≡ z → x ≡ y
same p q = p ∙ sym q

-- ---- the library: for the same arguments a, results r and r', parameters at exit x and x': elements and pieces, then places and spare, or bytes
pub read_one : (κs : _) (a : _) (r r' : _) (x x' : _) → Read κs a r x → Read κs a r' x'
    → (r ≡ r') × (x.1.0.now ≡ x'.1.0.now) × (x.1.1.0.now ≡ x'.1.1.0.now)
read_one κs a r r' x x' p q = (answered-one r r' (same p.0 q.0), same p.1.0 q.1.0, same p.1.1.0 q.1.1.0)

pub value-one : (κs : _) (a : _) (r r' : _) (x x' : _) → Value κs a r x → Value κs a r' x'
    → (r ≡ r') × (x.1.1.0.now ≡ x'.1.1.0.now) × (x.1.1.1.0.now ≡ x'.1.1.1.0.now)
value-one κs a r r' x x' p q = (answered-one r r' (same p.0 q.0), same p.1.0 q.1.0, same p.1.1.0 q.1.1.0)

pub pairs-one : (κs : _) (a : _) (r r' : _) (x x' : _) → Pairs κs a r x → Pairs κs a r' x'
    → (r ≡ r') × (x.1.0.now ≡ x'.1.0.now) × (x.1.1.0.now ≡ x'.1.1.0.now) × (x.1.1.1.0.now ≡ x'.1.1.1.0.now) × (x.1.1.1.1.0.now ≡ x'.1.1.1.1.0.now)
pairs-one κs a r r' x x' p q =
    (answered-one r r' (same p.0 q.0), same p.1.0 q.1.0, same p.1.1.0 q.1.1.0, same p.1.1.1.0 q.1.1.1.0, same p.1.1.1.1 q.1.1.1.1)

pub join_one : (κs : _) (a : _) (r r' : _) (x x' : _) → Join κs a r x → Join κs a r' x'
    → (r ≡ r') × (x.1.1.0.now ≡ x'.1.1.0.now) × (x.1.1.1.0.now ≡ x'.1.1.1.0.now) × (x.1.1.1.1.0.now ≡ x'.1.1.1.1.0.now)
join_one κs a r r' x x' p q = (answered-one r r' (same p.0 q.0), same p.1.0 q.1.0, same p.1.1.0 q.1.1.0, same p.1.1.1 q.1.1.1)

pub text-one : (κs : _) (a : _) (r r' : _) (x x' : _) → Text κs a r x → Text κs a r' x'
    → (r ≡ r') × (x.1.1.0.now ≡ x'.1.1.0.now) × (x.1.1.1.0.now ≡ x'.1.1.1.0.now) × (x.1.1.1.1.0.now ≡ x'.1.1.1.1.0.now)
text-one κs a r r' x x' p q = (answered-one r r' (same p.0 q.0), same p.1.0 q.1.0, same p.1.1.0 q.1.1.0, same p.1.1.1 q.1.1.1)

-- ---- the interface for other languages: the answer is the last parameter
pub c-read-one : (κs : _) (a : _) (r r' : _) (x x' : _) → CRead κs a r x → CRead κs a r' x'
    → (x.1.1.1.0.now ≡ x'.1.1.1.0.now) × (x.1.0.now ≡ x'.1.0.now) × (x.1.1.0.now ≡ x'.1.1.0.now)
c-read-one κs a r r' x x' p q = (same p.0 q.0, same p.1.0 q.1.0, same p.1.1 q.1.1)

pub c-value-one : (κs : _) (a : _) (r r' : _) (x x' : _) → CValue κs a r x → CValue κs a r' x'
    → (x.1.1.1.1.0.now ≡ x'.1.1.1.1.0.now) × (x.1.1.0.now ≡ x'.1.1.0.now) × (x.1.1.1.0.now ≡ x'.1.1.1.0.now)
c-value-one κs a r r' x x' p q = (same p.0 q.0, same p.1.0 q.1.0, same p.1.1 q.1.1)

pub c-pairs-one : (κs : _) (a : _) (r r' : _) (x x' : _) → CPairs κs a r x → CPairs κs a r' x'
    → (x.1.1.1.1.1.0.now ≡ x'.1.1.1.1.1.0.now) × (x.1.0.now ≡ x'.1.0.now) × (x.1.1.0.now ≡ x'.1.1.0.now) × (x.1.1.1.0.now ≡ x'.1.1.1.0.now) × (x.1.1.1.1.0.now ≡ x'.1.1.1.1.0.now)
c-pairs-one κs a r r' x x' p q =
    (same p.0 q.0, same p.1.0 q.1.0, same p.1.1.0 q.1.1.0, same p.1.1.1.0 q.1.1.1.0, same p.1.1.1.1 q.1.1.1.1)

pub c-join-one : (κs : _) (a : _) (r r' : _) (x x' : _) → CJoin κs a r x → CJoin κs a r' x'
    → (x.1.1.1.1.1.0.now ≡ x'.1.1.1.1.1.0.now) × (x.1.1.0.now ≡ x'.1.1.0.now) × (x.1.1.1.0.now ≡ x'.1.1.1.0.now) × (x.1.1.1.1.0.now ≡ x'.1.1.1.1.0.now)
c-join-one κs a r r' x x' p q = (same p.0 q.0, same p.1.0 q.1.0, same p.1.1.0 q.1.1.0, same p.1.1.1 q.1.1.1)

pub c-text-one : (κs : _) (a : _) (r r' : _) (x x' : _) → CText κs a r x → CText κs a r' x'
    → (x.1.1.1.1.1.0.now ≡ x'.1.1.1.1.1.0.now) × (x.1.1.0.now ≡ x'.1.1.0.now) × (x.1.1.1.0.now ≡ x'.1.1.1.0.now) × (x.1.1.1.1.0.now ≡ x'.1.1.1.1.0.now)
c-text-one κs a r r' x x' p q = (same p.0 q.0, same p.1.0 q.1.0, same p.1.1.0 q.1.1.0, same p.1.1.1 q.1.1.1)
