-- The two places for bytes. Assumes nothing.
use Rattle.std.specs.Prelude.{◌≡◌, List, [], ◌∷◌, ◌++◌, ℕ, suc, ◌+◌, ◌≤◌, ◌<◌, length, set}
use Rattle.std.proofs.Common.{refl, sym, ap, ◌∙◌, arith, add-zero, length-append}
use Rattle.std.proofs.Math.Seq.{length-sets}
use Rattle.std.proofs.lemmas.List.Edits.{sets}
use Rattle.sinks.specs.Laws.{SinkLaws}
use Rattle.sinks.specs.declared.Fill.{Fill}
use Rattle.sinks.specs.declared.Count.{Count}

-- ---- a lent buffer
abbrev pub fills : Fill → ℕ → Type 0
fills x n = x.at + n ≤ length x.out.now

-- the piece stands from the place on, all else is as it was, and the buffer is the same one
pub record HasFilled (x : Fill) (s : List ℕ) (y : Fill) : Type 0 where
  pub same : y.out.ghost_name ≡ x.out.ghost_name
  pub place : y.at ≡ x.at + length s
  pub bytes : y.out.now ≡ sets x.out.now x.at s

abbrev pub has_filled : Fill → List ℕ → Fill → Type 0
has_filled = HasFilled

pub sets-append : (l : List ℕ) (i : ℕ) (a b : List ℕ) → sets l i (a ++ b) ≡ sets (sets l i a) (i + length a) b
sets-append l i [] b = rw (add-zero i)
sets-append l i (x ∷ a) b =
    let e : i + suc (length a) ≡ suc i + length a = omega arith in
    sets-append (set l i x) (suc i) a b ∙ ap (λ (k : ℕ). sets (sets (set l i x) (suc i) a) k b) (sym e)

pub fill_laws : SinkLaws fills has_filled
fill_laws = record {
  none = λ x. record { same = refl; place = omega arith; bytes = refl };
  more = λ x y z a b p q. record {
    same = q.same ∙ p.same;
    place = omega (arith, p.place, q.place, length-append a b);
    bytes = q.bytes ∙ rw (p.bytes, p.place) (sym (sets-append x.out.now x.at a b));
  };
  left = λ x y a n p f. omega (arith, p.place, ap length p.bytes, length-sets x.out.now x.at a);
  less = λ x m n f l. omega arith;
}

-- ---- a number
abbrev pub counts : Count → ℕ → Type 0
counts x n = x.bytes + n < 18446744073709551616

abbrev pub has_counted : Count → List ℕ → Count → Type 0
has_counted x s y = y.bytes ≡ x.bytes + length s

pub count_laws : SinkLaws counts has_counted
count_laws = record {
  none = λ x. omega arith;
  more = λ x y z a b p q. omega (arith, length-append a b);
  left = λ x y a n p f. omega arith;
  less = λ x m n f l. omega arith;
}
