-- The parser's rule for `{` and the reader agree on what one set is (RULES J19). Assumes nothing.
use Prim.Native.Nat.{ℕ, zero, suc, ◌+◌, ◌*◌, ◌≤◌}
use mathlib.Core.Path.{◌≡◌, refl, sym, ap, ◌∙◌, subst}
use mathlib.Core.Bool.{Bool, true, false, not, true≢false}
use mathlib.Core.List.{List, [], ◌∷◌}
use native.Mathlib.Omega.{arith}
use native.Mathlib.Nat.{not-suc-le-zero, le_of_suc-le-suc}
use lib.Dec.{eqb}
use lib.ListN.{length, get_or, take}
use lib.Seq.{length-take-le}
use borrow.Author.Tests.{eqb-true, eqb-false, eq-eqb, ne_eqb}
use Rattle.classes.specs.Choice.{pick}
use Rattle.attrs.specs.Machine.{step_of, valid_from, valid_of}
use Rattle.trim.specs.Trim.{kept, trim_end}
use Rattle.trim.proofs.TrimLaws.{kept-le}
use Rattle.sets.specs.Given.{Verdict, Good, Bad, verdict_from, verdict_of}
use Rattle.sets.specs.Opened.{open_of}
use Rattle.classes.specs.Classes.{within, is_space}
use Rattle.kinds.specs.Identify.{identified_as, paragraph_at, attributes_of}
use Rattle.kinds.specs.declared.Kind.TheVariants.{Attributes}
use Rattle.measure.specs.Continue.{kind_num}
use Rattle.theorems_sets.specs.Sets.{sets_from, sets_of}
use Rattle.theorems_sets.proofs.Rooms.{good-opened, opened-good}

-- ---- one byte of the three runs
by_state : {A : Type 0} (t : ℕ) → (t ≡ 17 → A) → (t ≡ 16 → A) → ((t ≡ 17 → ⊥) → (t ≡ 16 → ⊥) → A) → A
by_state {A} t f g h = by-test (eqb t 17) (eqb t 16) refl refl
  where
    by-test : (c d : Bool) → eqb t 17 ≡ c → eqb t 16 ≡ d → A
    by-test true d p q = f (eqb-true t 17 p)
    by-test false true p q = g (eqb-true t 16 q)
    by-test false false p q = h (eqb-false t 17 p) (eqb-false t 16 q)

module _ (s p b : ℕ) (bs : List ℕ) where
  abbrev t : ℕ
  t = step_of s b

  abbrev again : Bool
  again = eqb (get_or bs 0 0) 123

  at-invalid : t ≡ 17 → (valid_from s p (b ∷ bs) ≡ 0) × (verdict_from s p (b ∷ bs) ≡ Bad p) × (sets_from s (b ∷ bs) ≡ 0)
  unfolding valid_from verdict_from sets_from
  at-invalid e = rw e (refl, refl, refl)

  at_done : t ≡ 16 → (valid_from s p (b ∷ bs) ≡ p + 1) × (verdict_from s p (b ∷ bs) ≡ pick (not again) (pick (eqb (length bs) 0) Good (Bad (p + 1))) (verdict_from 0 (p + 1) bs))
      × (sets_from s (b ∷ bs) ≡ suc (pick (not again) 0 (sets_from 0 bs)))
  unfolding valid_from verdict_from sets_from
  at_done e = rw e (refl, refl, refl)

  at_other : (t ≡ 17 → ⊥) → (t ≡ 16 → ⊥) → (valid_from s p (b ∷ bs) ≡ valid_from t (p + 1) bs) × (verdict_from s p (b ∷ bs) ≡ verdict_from t (p + 1) bs) × (sets_from s (b ∷ bs) ≡ sets_from t bs)
  unfolding valid_from verdict_from sets_from
  at_other n m = rw (ne_eqb t 17 n, ne_eqb t 16 m) (refl, refl, refl)

-- no bytes, no answer
valid-none : (s n : ℕ) → valid_from s n [] ≡ 0
unfolding valid_from
valid-none s n = refl

verdict-none : (s p : ℕ) → verdict_from s p [] ≡ Bad p
unfolding verdict_from
verdict-none s p = refl

bad-good : {A : Type 0} (p : ℕ) → Bad p ≡ Good → A
bad-good p e = absurd (true≢false (sym (ap is_good e)))
  where
    is_good : Verdict → Bool
    is_good Good = true
    is_good (Bad q) = false

-- ---- `valid` over a front part
valid-past : (s n k : ℕ) (xs : List ℕ) → valid_from s n xs ≡ k → k ≤ n → 1 ≤ k → ⊥
valid-past s n k [] e l o = omega (arith, e, valid-none s n, o)
valid-past s n k (b ∷ bs) e l o =
    by_state (step_of s b) (λ q. omega (arith, (at-invalid s n b bs q).0, e, o)) (λ q. omega (arith, (at_done s n b bs q).0, e, l))
    (λ q r. valid-past (step_of s b) (n + 1) k bs (sym (at_other s n b bs q r).0 ∙ e) (omega (arith, l)) o)

-- an answer j bytes on is the answer of the first j bytes
valid-front : (s n j : ℕ) (xs : List ℕ) → 1 ≤ j → j ≤ length xs → valid_from s n (take j xs) ≡ n + j → valid_from s n xs ≡ n + j
valid-front s n zero xs o l e = absurd (not-suc-le-zero o)
valid-front s n (suc j) [] o l e = absurd (not-suc-le-zero l)
valid-front s n (suc zero) (b ∷ bs) o l e =
    by_state (step_of s b) (λ q. absurd (omega (arith, (at-invalid s n b [] q).0, e))) (λ q. (at_done s n b bs q).0)
    (λ q r. absurd (omega (arith, (at_other s n b [] q r).0, valid-none (step_of s b) (n + 1), e)))
valid-front s n (suc (suc j)) (b ∷ bs) o l e =
    by_state (step_of s b) (λ q. absurd (omega (arith, (at-invalid s n b (take (suc j) bs) q).0, e))) (λ q. absurd (omega (arith, (at_done s n b (take (suc j) bs) q).0, e)))
    (λ q r. (at_other s n b bs q r).0
    ∙ valid-front (step_of s b) (n + 1) (suc j) bs (omega arith) (le_of_suc-le-suc l) (sym (at_other s n b (take (suc j) bs) q r).0 ∙ e ∙ omega arith) ∙ omega arith)

valid-back : (s n j : ℕ) (xs : List ℕ) → 1 ≤ j → j ≤ length xs → valid_from s n xs ≡ n + j → valid_from s n (take j xs) ≡ n + j
valid-back s n zero xs o l e = absurd (not-suc-le-zero o)
valid-back s n (suc j) [] o l e = absurd (not-suc-le-zero l)
valid-back s n (suc zero) (b ∷ bs) o l e =
    by_state (step_of s b) (λ q. absurd (omega (arith, (at-invalid s n b bs q).0, e))) (λ q. (at_done s n b [] q).0)
    (λ q r. absurd (valid-past (step_of s b) (n + 1) (n + 1) bs (sym (at_other s n b bs q r).0 ∙ e) (omega arith) (omega arith)))
valid-back s n (suc (suc j)) (b ∷ bs) o l e =
    by_state (step_of s b) (λ q. absurd (omega (arith, (at-invalid s n b bs q).0, e))) (λ q. absurd (omega (arith, (at_done s n b bs q).0, e)))
    (λ q r. (at_other s n b (take (suc j) bs) q r).0
    ∙ valid-back (step_of s b) (n + 1) (suc j) bs (omega arith) (le_of_suc-le-suc l) (sym (at_other s n b bs q r).0 ∙ e ∙ omega arith) ∙ omega arith)

-- ---- one set, and nothing behind it
good-sets : (s p : ℕ) (bs : List ℕ) → verdict_from s p bs ≡ Good → 1 ≤ sets_from s bs
good-sets s p [] e = bad-good p (sym (verdict-none s p) ∙ e)
good-sets s p (b ∷ bs) e =
    by_state (step_of s b) (λ q. bad-good p (sym (at-invalid s p b bs q).1 ∙ e)) (λ q. omega (arith, (at_done s p b bs q).2))
    (λ q r. subst (λ (n : ℕ). 1 ≤ n) (sym (at_other s p b bs q r).2) (good-sets (step_of s b) (p + 1) bs (sym (at_other s p b bs q r).1 ∙ e)))

one-good : (s p : ℕ) (bs : List ℕ) → 1 ≤ length bs → valid_from s p bs ≡ p + length bs → (verdict_from s p bs ≡ Good) × (sets_from s bs ≡ 1)
one-good s p [] o e = absurd (not-suc-le-zero o)
one-good s p (b ∷ []) o e =
    by_state (step_of s b) (λ q. absurd (omega (arith, (at-invalid s p b [] q).0, e))) (λ q. ((at_done s p b [] q).1, (at_done s p b [] q).2))
    (λ q r. absurd (omega (arith, (at_other s p b [] q r).0, valid-none (step_of s b) (p + 1), e)))
one-good s p (b ∷ c ∷ bs) o e =
    by_state (step_of s b) (λ q. absurd (omega (arith, (at-invalid s p b (c ∷ bs) q).0, e))) (λ q. absurd (omega (arith, (at_done s p b (c ∷ bs) q).0, e)))
    (λ q r.
    let w = at_other s p b (c ∷ bs) q r in
    let k = one-good (step_of s b) (p + 1) (c ∷ bs) (omega arith) (sym w.0 ∙ e ∙ omega arith) in
    (w.1 ∙ k.0, w.2 ∙ k.1))

good-one : (s p : ℕ) (bs : List ℕ) → verdict_from s p bs ≡ Good → sets_from s bs ≡ 1 → valid_from s p bs ≡ p + length bs
good-one s p [] e k = bad-good p (sym (verdict-none s p) ∙ e)
good-one s p (b ∷ bs) e k =
    by_state (step_of s b) (λ q. bad-good p (sym (at-invalid s p b bs q).1 ∙ e))
    (λ q. (at_done s p b bs q).0 ∙ ends (eqb (get_or bs 0 0) 123) (eqb (length bs) 0) refl (sym (at_done s p b bs q).1 ∙ e) (sym (at_done s p b bs q).2 ∙ k))
    (λ q r.
    let w = at_other s p b bs q r in
    w.0 ∙ good-one (step_of s b) (p + 1) bs (sym w.1 ∙ e) (sym w.2 ∙ k) ∙ omega arith)
  where
    ends : (x y : Bool) → eqb (length bs) 0 ≡ y → pick (not x) (pick y Good (Bad (p + 1))) (verdict_from 0 (p + 1) bs) ≡ Good → suc (pick (not x) 0 (sets_from 0 bs)) ≡ 1 → p + 1 ≡ p + suc (length bs)
    ends true y u g n = absurd (omega (arith, good-sets 0 (p + 1) bs g, n))
    ends false true u g n = omega (arith, eqb-true (length bs) 0 u)
    ends false false u g n = bad-good (p + 1) g

-- ---- so the two agree on every text that has a byte other than whitespace
module _ (text : List ℕ) (o : 1 ≤ kept text) where
  length-trimmed : length (trim_end text) ≡ kept text
  unfolding trim_end
  length-trimmed = length-take-le (kept text) text (kept-le text)

  pub taken-as-one : valid_of text ≡ kept text → (verdict_of (trim_end text) ≡ Good) × (sets_of (trim_end text) ≡ 1)
  unfolding valid_of trim_end
  taken-as-one e =
      one-good 0 0 (trim_end text) (omega (arith, o, length-trimmed))
      (valid-back 0 0 (kept text) text o (kept-le text) (e ∙ omega arith) ∙ omega (arith, length-trimmed))

  pub one-is-taken : verdict_of (trim_end text) ≡ Good → sets_of (trim_end text) ≡ 1 → valid_of text ≡ kept text
  unfolding valid_of trim_end
  one-is-taken g k =
      valid-front 0 0 (kept text) text o (kept-le text) (good-one 0 0 (trim_end text) g k ∙ omega (arith, length-trimmed)) ∙ omega arith

-- ---- the rule for a text that begins with `{`, and a reader with room
brace-kept : (text : List ℕ) → get_or text 0 0 ≡ 123 → 1 ≤ kept text
unfolding kept is_space within
brace-kept [] e = absurd (omega (arith, e))
brace-kept (b ∷ bs) e = rw e (by-test (eqb (kept bs) 0))
  where
    by-test : (t : Bool) → 1 ≤ pick t 1 (suc (kept bs))
    by-test true = omega arith
    by-test false = omega arith

module _ (n : ℕ) (text : List ℕ) (ne np : ℕ) (b : get_or text 0 0 ≡ 123) (le : 5 * length text ≤ ne) (lp : 2 * length text ≤ np) where
  pub attributes-open : (attributes_of n text).kind ≡ Attributes → ((open_of text ne np).answer.number ≡ 0) × (sets_of (trim_end text) ≡ 1)
  unfolding attributes_of
  attributes-open e = by-test (eqb (valid_of text) (kept text)) refl e
    where
      by-test : (t : Bool) → eqb (valid_of text) (kept text) ≡ t → (pick t (identified_as Attributes n (n + length text)) (paragraph_at n)).kind ≡ Attributes
          → ((open_of text ne np).answer.number ≡ 0) × (sets_of (trim_end text) ≡ 1)
      by-test true q e =
          let w = taken-as-one text (brace-kept text b) (eqb-true (valid_of text) (kept text) q) in
          (good-opened text ne np le lp w.0, w.1)
      by-test false q e = absurd (omega (arith, ap kind_num e))

  pub open-attributes : (open_of text ne np).answer.number ≡ 0 → sets_of (trim_end text) ≡ 1 → (attributes_of n text).kind ≡ Attributes
  unfolding attributes_of
  open-attributes z k = rw (eq-eqb (valid_of text) (kept text) (one-is-taken text (brace-kept text b) (opened-good text ne np z) k))
