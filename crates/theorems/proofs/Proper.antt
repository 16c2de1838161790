-- The spans and data of a block's first line: in order, and in the line. Assumes nothing.
use mathlib.Core.Path.{◌≡◌, refl, subst}
use mathlib.Core.Bool.{Bool, true, false}
use mathlib.Core.List.{List, [], ◌∷◌}
use Prim.Native.Nat.{ℕ, zero, suc, ◌+◌, ◌-◌, ◌*◌, ◌^◌, ◌≤◌, ◌<◌}
use native.Mathlib.Nat.{pow-le-pow_right}
use native.Mathlib.Omega.{arith}
use lib.Dec.{eqb, leb, ltb, lit<}
use lib.ListN.{length, get_or, take, drop, length-take}
use borrow.Author.Tests.{eqb-true, leb-true, ltb-false}
use Rattle.classes.specs.Choice.{pick, both, either}
use Rattle.classes.specs.Classes.{within, is_bullet as is_bullet_byte}
use Rattle.classes.proofs.ChoiceLaws.{true-right}
use Rattle.numbers.specs.Numbers.{digit_of, decimal_of, letter_of, roman_of, alpha_of, max_of, num_of, numeral_of, run_by, run_of, value_of, begins_of}
use Rattle.numbers.specs.declared.Numbering.{Numbering}
use Rattle.numbers.specs.declared.Numbering.TheVariants.{Decimal, AlphaLower, AlphaUpper, RomanLower, RomanUpper}
use Rattle.numbers.proofs.NumberLaws.{grows}
use Rattle.numbers.proofs.RomanLaws.{letter-le}
use Rattle.markers.specs.Markers.{none, marker_num, ends_at, style_of, styled_of, begun_of, numbered_of, ordered_of, task_at, bullet_ends, bullet_of, description_of, marker_of}
use Rattle.markers.specs.Lists.{letter_rank, also_of, ambiguity_of, same_numbering, same_style, follows_of, one_more, by_next, by_letters, ordered_on, unordered_on, task_on, description_on, yes, continues_of}
use Rattle.markers.specs.declared.Style.{Style}
use Rattle.markers.specs.declared.Marked.{Marked as Found}
use Rattle.markers.specs.declared.Marker.{Marker}
use Rattle.markers.specs.declared.Marker.TheVariants.{Nothing, Unordered, Ordered, Task, Description}
use Rattle.markers.specs.declared.Number.{Number}
use Rattle.markers.specs.declared.Continued.{Continued}
use Rattle.std.specs.Prelude.{Option, Some, None}
use Rattle.kinds.specs.declared.Kind.{Kind}
use Rattle.kinds.specs.declared.Kind.TheVariants.{Blankline, Attributes, ThematicBreak, Paragraph, Heading, Fenced, Definition, Blockquote, ListItem, Table}
use Rattle.fields.specs.Fields.{is_bullet}

-- a marker's bullet is one, its value has 64 bits
abbrev pub Marked : Marker → Type 0
Marked Nothing = ⊥
Marked (Unordered b) = is_bullet b ≡ true
Marked (Ordered n s v) = v < 2 ^ 64
Marked (Task b) = is_bullet b ≡ true
Marked Description = Unit {0}

-- of a line of n bytes: a heading has a level, a spec, class or label is a part of the line
abbrev pub Proper : ℕ → Kind → Type 0
Proper n Blankline = Unit {0}
Proper n Attributes = Unit {0}
Proper n ThematicBreak = Unit {0}
Proper n Paragraph = Unit {0}
Proper n (Heading l) = 1 ≤ l
Proper n (Fenced i l m s c k) = (s.start ≤ s.end) × (s.end ≤ n)
Proper n (Definition i f s b) = (s.start ≤ s.end) × (s.end ≤ n)
Proper n Blockquote = Unit {0}
Proper n (ListItem i m b) = Marked m
Proper n (Table c b) = Unit {0}

-- what holds of both sides of a choice, each where its test says so
module _ {A : Type 0} (P : A → Type 0) where
  pub of-pick : (b : Bool) (x y : A) → (b ≡ true → P x) → (b ≡ false → P y) → P (pick b x y)
  of-pick true x y p q = p refl
  of-pick false x y p q = q refl

-- ---- a number's value has 64 bits
run-le : (own m : ℕ) (s : List ℕ) → run_by own m s ≤ m
unfolding run_by
run-le own zero s = omega arith
run-le own (suc m) [] = omega arith
run-le own (suc m) (b ∷ bs) = of-pick (λ (n : ℕ). n ≤ suc m) (eqb (numeral_of b) own) _ 0 (λ p. omega (arith, run-le own m bs)) (λ p. omega arith)

run_short : (k : Numbering) (s : List ℕ) → length (take (run_of k s) s) ≤ max_of k
run_short k s = omega (arith, length-take (run_of k s) s, run-le (num_of k) (max_of k) s)

digit-le : (b : ℕ) → digit_of b ≤ 9
unfolding digit_of
digit-le b =
    of-pick (λ (n : ℕ). n ≤ 9) (ltb b 48) 0 _ (λ p. omega arith)
    (λ p. of-pick (λ (n : ℕ). n ≤ 9) (ltb 57 b) 0 _ (λ q. omega arith) (λ q. omega (arith, ltb-false 57 b q)))

-- after i digits
decimal-less : (s : List ℕ) (i v : ℕ) → i + length s ≤ 19 → v < 10 ^ i → decimal_of v s < 10 ^ 19
unfolding decimal_of
decimal-less [] i v h l =
    let k : i ≤ 19 = omega arith in
    let p : 10 ^ i ≤ 10 ^ 19 = pow-le-pow_right (lit< tt) k in
    omega arith
decimal-less (b ∷ bs) i v h l = decimal-less bs (i + 1) (v * 10 + digit_of b) (omega arith) (grows i v (digit_of b) (omega arith) l (digit-le b)).0

roman-le : (s : List ℕ) → roman_of s ≤ 1000 * length s
unfolding roman_of
roman-le [] = omega arith
roman-le (b ∷ bs) =
    let r = roman-le bs in
    let l = letter-le b in
    of-pick (λ (n : ℕ). n ≤ 1000 * suc (length bs)) (ltb (letter_of b) (letter_of (get_or bs 0 0))) _ _ (λ p. omega arith) (λ p. omega arith)

-- a digit's byte is a letter at most
numeral-le : (b k : ℕ) → numeral_of b ≡ suc k → b ≤ 122
unfolding numeral_of within
numeral-le b k =
    of-pick (λ (n : ℕ). n ≡ suc k → b ≤ 122) (both (leb 48 b) (leb b 57)) 1 _ (λ p e. top 48 57 p (omega arith))
    (λ p. of-pick (λ (n : ℕ). n ≡ suc k → b ≤ 122) (both (leb 97 b) (leb b 122)) _ _ (λ q e. top 97 122 q (omega arith))
    (λ q. of-pick (λ (n : ℕ). n ≡ suc k → b ≤ 122) (both (leb 65 b) (leb b 90)) _ 0 (λ r e. top 65 90 r (omega arith)) (λ r e. absurd (omega arith))))
  where
    top : (lo hi : ℕ) → both (leb lo b) (leb b hi) ≡ true → hi ≤ 122 → b ≤ 122
    top lo hi p h = omega (arith, leb-true b hi (true-right (leb lo b) (leb b hi) p))

alpha-le : (b : ℕ) → alpha_of b ≤ b
unfolding alpha_of
alpha-le b = of-pick (λ (n : ℕ). n ≤ b) (leb 97 b) _ _ (λ p. omega arith) (λ p. omega arith)

-- one letter of a numbering
alpha-less : (k : ℕ) (s : List ℕ) → alpha_of (get_or (take (run_by (suc k) 1 s) s) 0 0) ≤ 122
unfolding run_by
alpha-less k [] = omega (arith, alpha-le 0)
alpha-less k (b ∷ bs) =
    of-pick (λ (n : ℕ). alpha_of (get_or (take n (b ∷ bs)) 0 0) ≤ 122) (eqb (numeral_of b) (suc k)) 1 0
    (λ p. omega (arith, alpha-le b, numeral-le b k (eqb-true (numeral_of b) (suc k) p)))
    (λ p. omega (arith, alpha-le 0))

value-fits : (k : Numbering) (s : List ℕ) → value_of k (take (run_of k s) s) < 2 ^ 64
value-fits Decimal s = omega (arith, decimal-less (take (run_of Decimal s) s) 0 0 (omega (arith, run_short Decimal s)) (omega arith))
value-fits AlphaLower s = omega (arith, alpha-less 1 s)
value-fits AlphaUpper s = omega (arith, alpha-less 2 s)
value-fits RomanLower s = omega (arith, run_short RomanLower s, roman-le (take (run_of RomanLower s) s))
value-fits RomanUpper s = omega (arith, run_short RomanUpper s, roman-le (take (run_of RomanUpper s) s))

-- ---- a marker that was read
-- none says nothing
abbrev pub Reads : Option Found → Type 0
Reads None = Unit {0}
Reads (Some x) = Marked x.marker

styled-reads : (t : List ℕ) (from : ℕ) (k : Numbering) (y : Option Style) → Reads (styled_of t from (from + run_of k (drop from t)) k y)
styled-reads t from k None = tt
styled-reads t from k (Some y) =
    let r = run_of k (drop from t) in
    let e : from + r - from ≡ r = omega arith in
    of-pick Reads (ends_at t (from + r + 1)) _ none (λ p. rw e (value-fits k (drop from t))) (λ p. tt)

begun-reads : (t : List ℕ) (from : ℕ) (paren : Bool) (k : Option Numbering) → Reads (begun_of t from paren k)
unfolding begun_of
begun-reads t from paren None = tt
begun-reads t from paren (Some k) =
    let e = from + run_of k (drop from t) in
    of-pick Reads (leb (length t) e) none _ (λ p. tt) (λ p. styled-reads t from k (style_of paren (get_or t e 0)))

numbered-reads : (t : List ℕ) (from : ℕ) (paren : Bool) → Reads (numbered_of t from paren)
unfolding numbered_of
numbered-reads t from paren = of-pick Reads (leb (length t) from) none _ (λ p. tt) (λ p. begun-reads t from paren (begins_of (get_or t from 0)))

ordered-reads : (t : List ℕ) → Reads (ordered_of t)
unfolding ordered_of
ordered-reads t = of-pick Reads (eqb (get_or t 0 0) 40) _ _ (λ p. numbered-reads t 1 true) (λ p. numbered-reads t 0 false)

-- the tests of the two definitions, in another order
same-bullet : (x : ℕ) → is_bullet_byte x ≡ true → is_bullet x ≡ true
unfolding is_bullet_byte
same-bullet x = turn (eqb x 45) (eqb x 42) (eqb x 43)
  where
    turn : (p q r : Bool) → either p (either q r) ≡ true → either q (either r p) ≡ true
    turn p true r e = refl
    turn p false true e = refl
    turn true false false e = refl
    turn false false false e = e

bullet-reads : (t : List ℕ) → is_bullet_byte (get_or t 0 0) ≡ true → Reads (bullet_of t)
unfolding bullet_of
bullet-reads t p =
    let b = same-bullet (get_or t 0 0) p in
    of-pick Reads (bullet_ends t) _ none (λ q. of-pick Reads (task_at t) _ _ (λ r. b) (λ r. b)) (λ q. tt)

description-reads : (t : List ℕ) → Reads (description_of t)
unfolding description_of
description-reads t = of-pick Reads (ends_at t 1) _ none (λ p. tt) (λ p. tt)

pub marker-reads : (t : List ℕ) → Reads (marker_of t)
unfolding marker_of
marker-reads t =
    of-pick Reads (is_bullet_byte (get_or t 0 0)) _ _ (bullet-reads t)
    (λ p. of-pick Reads (eqb (get_or t 0 0) 58) _ _ (λ q. description-reads t) (λ q. ordered-reads t))

-- ---- two markers of one list
-- both as they are then read
abbrev Goes : Marker → Marker → Option Continued → Type 0
Goes x y None = Unit {0}
Goes x y (Some c) = Marked c.prev × Marked c.next × (marker_num c.prev ≡ marker_num x) × (marker_num c.next ≡ marker_num y) × (marker_num x ≡ marker_num y)

rank-le : (v : ℕ) → letter_rank v ≤ 24
unfolding letter_rank
rank-le v =
    by (eqb v 1) 9 _ (omega arith) (by (eqb v 5) 22 _ (omega arith) (by (eqb v 10) 24 _ (omega arith) (by (eqb v 50) 12 _ (omega arith)
    (by (eqb v 100) 3 _ (omega arith) (by (eqb v 500) 4 _ (omega arith) (by (eqb v 1000) 13 0 (omega arith) (omega arith)))))))
  where
    by : (b : Bool) (x y : ℕ) → x ≤ 24 → y ≤ 24 → pick b x y ≤ 24
    by b x y p q = of-pick (λ (n : ℕ). n ≤ 24) b x y (λ e. p) (λ e. q)

-- a letter's place has 64 bits
abbrev Ranked : Option Number → Type 0
Ranked None = Unit {0}
Ranked (Some a) = a.value < 2 ^ 64

also-ranked : (k : Numbering) (v : ℕ) → Ranked (also_of k v)
unfolding also_of
also-ranked k v = of-pick Ranked (eqb (letter_rank v) 0) None _ (λ p. tt) (λ p. omega (arith, rank-le v))

ambiguity-ranked : (k : Numbering) (v : ℕ) → Ranked (ambiguity_of k v)
unfolding ambiguity_of
ambiguity-ranked Decimal v = tt
ambiguity-ranked AlphaLower v = tt
ambiguity-ranked AlphaUpper v = tt
ambiguity-ranked RomanLower v = also-ranked AlphaLower v
ambiguity-ranked RomanUpper v = also-ranked AlphaUpper v

module _ (n : Numbering) (y : Style) (v : ℕ) (m : Numbering) (z : Style) (w : ℕ) (p : v < 2 ^ 64) (q : w < 2 ^ 64) where
  abbrev On : Option Continued → Type 0
  On = Goes (Ordered n y v) (Ordered m z w)

  more-goes : (k : Numbering) (x : ℕ) (k' : Numbering) (x' : ℕ) → x < 2 ^ 64 → x' < 2 ^ 64 → On (one_more k x y k' x')
  more-goes k x k' x' h l = of-pick On (both (same_numbering k k') (follows_of x x')) _ None (λ e. (h, l, refl, refl, refl)) (λ e. tt)

  next-goes : (x : Option Number) → Ranked x → On (by_next n v y m w x)
  unfolding by_next
  next-goes None r = tt
  next-goes (Some a) r = more-goes n v a.numbering a.value p r

  letters-go : (x : Option Number) → Ranked x → On (by_letters n v y m w x)
  unfolding by_letters
  letters-go None r = next-goes (ambiguity_of m w) (ambiguity-ranked m w)
  letters-go (Some a) r = more-goes a.numbering a.value m w r q

  ordered-goes : On (ordered_on n y v (Ordered m z w))
  unfolding ordered_on
  ordered-goes =
      of-pick On (same_style y z) _ None
      (λ e. of-pick On (same_numbering n m) _ _ (λ f. (p, q, refl, refl, refl)) (λ f. letters-go (ambiguity_of n v) (ambiguity-ranked n v)))
      (λ e. tt)

continues-goes : (x y : Marker) → Marked x → Marked y → Goes x y (continues_of x y)
unfolding continues_of unordered_on ordered_on task_on description_on
continues-goes Nothing y p q = tt
continues-goes (Unordered c) Nothing p q = tt
continues-goes (Unordered c) (Unordered b) p q = of-pick (Goes (Unordered c) (Unordered b)) (eqb c b) _ None (λ e. (p, q, refl, refl, refl)) (λ e. tt)
continues-goes (Unordered c) (Ordered m t w) p q = tt
continues-goes (Unordered c) (Task b) p q = tt
continues-goes (Unordered c) Description p q = tt
continues-goes (Ordered n s v) Nothing p q = tt
continues-goes (Ordered n s v) (Unordered b) p q = tt
continues-goes (Ordered n s v) (Ordered m t w) p q = ordered-goes n s v m t w p q
continues-goes (Ordered n s v) (Task b) p q = tt
continues-goes (Ordered n s v) Description p q = tt
continues-goes (Task c) Nothing p q = tt
continues-goes (Task c) (Unordered b) p q = tt
continues-goes (Task c) (Ordered m t w) p q = tt
continues-goes (Task c) (Task b) p q = of-pick (Goes (Task c) (Task b)) (eqb c b) _ None (λ e. (p, q, refl, refl, refl)) (λ e. tt)
continues-goes (Task c) Description p q = tt
continues-goes Description Nothing p q = tt
continues-goes Description (Unordered b) p q = tt
continues-goes Description (Ordered m t w) p q = tt
continues-goes Description (Task b) p q = tt
continues-goes Description Description p q = (tt, tt, refl, refl, refl)

pub continued-marked : (a b : Marker) (p n : Marker) → Marked a → Marked b → continues_of a b ≡ yes p n →
    Marked p × Marked n × (marker_num p ≡ marker_num a) × (marker_num n ≡ marker_num b) × (marker_num a ≡ marker_num b)
continued-marked a b p n x y e = subst (Goes a b) e (continues-goes a b x y)
