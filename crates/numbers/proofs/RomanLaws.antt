-- Laws of roman numbers, read from the right. Assumes nothing.
use Rattle.std.proofs.Common.{◌≡◌, ◌∙◌, refl, sym, ap, Bool, true, false, List, [], ◌∷◌, ◌++◌, append_assoc, append-nil, length-append, ℕ, ◌+◌, ◌-◌, ◌*◌, ◌≤◌, ◌<◌, length, get_or, arith}
use lib.Dec.{T, eqb, leb, leb→le}
use borrow.Author.Tests.{lt-ltb, le-ltb, lt-leb}
use Rattle.classes.proofs.ChoiceLaws.{both_left, both_right}
use Rattle.classes.specs.Choice.{pick, both, either}
use Rattle.numbers.specs.Numbers.{letter_of, roman_of}

-- a row of tests and what each gives: the first that holds decides
record Case : Type 0 where
  test : Bool
  gives : ℕ

abbrev first : List Case → ℕ
first [] = 0
first (c ∷ cs) = pick c.test c.gives (first cs)

-- f holds of all that a row may give
abbrev every : (ℕ → Bool) → List Case → Bool
every f [] = f 0
every f (c ∷ cs) = both (f c.gives) (every f cs)

every_first : (f : ℕ → Bool) (cs : List Case) → T (every f cs) → T (f (first cs))
every_first f [] t = t
every_first f (c ∷ cs) t = by-case c.test (both_left (f c.gives) (every f cs) t) (every_first f cs (both_right (f c.gives) (every f cs) t))
  where
    by-case : (b : Bool) → T (f c.gives) → T (f (first cs)) → T (f (pick b c.gives (first cs)))
    by-case true p q = p
    by-case false p q = q

-- a letter in its two cases, and what it is worth
abbrev roman-digit : ℕ → ℕ → ℕ → ℕ → Case
roman-digit b lower upper v = record { test = either (eqb b lower) (eqb b upper); gives = v }

abbrev letters : ℕ → List Case
letters b = roman-digit b 105 73 1 ∷ roman-digit b 118 86 5 ∷ roman-digit b 120 88 10 ∷ roman-digit b 108 76 50 ∷ roman-digit b 99 67 100 ∷ roman-digit b 100 68 500 ∷ roman-digit b 109 77 1000 ∷ []

letter-first : (b : ℕ) → letter_of b ≡ first (letters b)
unfolding letter_of
letter-first b = refl

-- what the test finds of every roman digit's value holds of a letter's
letter-every : (f : ℕ → Bool) (b : ℕ) → T (every f (letters b)) → T (f (letter_of b))
letter-every f b t = rw (letter-first b) (every_first f (letters b) t)

pub letter-le : (b : ℕ) → letter_of b ≤ 1000
letter-le b = leb→le (letter_of b) 1000 (letter-every (λ x. leb x 1000) b tt)

either-right : (a b : Bool) → a ≡ false → T (either a b) → T b
either-right a b e t = rw e at t

-- a smaller roman digit is at most half of a larger: a test on the eight values
abbrev halved : ℕ → ℕ → Bool
halved x y = either (leb y x) (leb (2 * x) y)

half : (a b : ℕ) → letter_of a < letter_of b → 2 * letter_of a ≤ letter_of b
half a b h =
    let t : T (halved (letter_of a) (letter_of b)) = letter-every (halved (letter_of a)) b (letter-every (λ x. every (halved x) (letters b)) a tt) in
    leb→le (2 * letter_of a) (letter_of b) (either-right (leb (letter_of b) (letter_of a)) _ (lt-leb (letter_of b) (letter_of a) h) t)

-- v is the value of the digits t, and right is the first of them
pub record Read (t : List ℕ) (v right : ℕ) : Type 0 where
  pub small : v ≤ 1000 * length t
  pub least : right ≤ v
  pub next : right ≡ letter_of (get_or t 0 0)
  pub so_far : v ≡ roman_of t

-- the digits t behind those of `rest` are read
pub record Reading (s rest : List ℕ) (v right : ℕ) : Type 0 where
  pub behind : List ℕ
  pub is : s ≡ rest ++ behind
  pub read : Read behind v right

pub roman-start : (s rest : List ℕ) → rest ≡ s → Reading s rest 0 0
unfolding letter_of roman_of
roman-start s rest e = record { behind = []; is = sym (append-nil rest ∙ e); read = record { small = omega arith; least = omega arith; next = refl; so_far = refl } }

pub roman-end : (s rest : List ℕ) (v right : ℕ) → Reading s rest v right → length rest ≡ 0 → v ≡ roman_of s
roman-end s [] v right l e = l.read.so_far ∙ ap roman_of (sym l.is)
roman-end s (b ∷ rest) v right l e = absurd (omega arith)

module _ (s rest less : List ℕ) (b v right d : ℕ) (is : rest ≡ less ++ b ∷ []) (l : Reading s rest v right) (e : d ≡ letter_of b) where
  shorter : s ≡ less ++ (b ∷ l.behind)
  shorter = l.is ∙ ap (λ (x : List ℕ). x ++ l.behind) is ∙ append_assoc less (b ∷ []) l.behind

  d-le : d ≤ 1000
  d-le = rw e (letter-le b)

  pub roman-bound : v + d ≤ 1000 * length s
  roman-bound = let h = d-le in omega (arith, l.read.small, ap length shorter, length-append less (b ∷ l.behind))

  pub roman-sub : d < right → Reading s less (v - d) d
  unfolding roman_of
  roman-sub q =
      let h = d-le in
      let r = l.read in
      let t : letter_of b < letter_of (get_or l.behind 0 0) = rw (← e, ← r.next) q in
      let k : 2 * d ≤ right = rw (e, r.next) (half b (get_or l.behind 0 0) t) in
      record {
        behind = b ∷ l.behind;
        is = shorter;
        read = record { small = omega (arith, r.small); least = omega (arith, r.least); next = e; so_far = rw (r.so_far, e, lt-ltb (letter_of b) (letter_of (get_or l.behind 0 0)) t) };
      }

  pub roman-add : right ≤ d → Reading s less (v + d) d
  unfolding roman_of
  roman-add q =
      let h = d-le in
      let r = l.read in
      let t : letter_of (get_or l.behind 0 0) ≤ letter_of b = rw (← e, ← r.next) q in
      record {
        behind = b ∷ l.behind;
        is = shorter;
        read = record { small = omega (arith, r.small); least = omega arith; next = e; so_far = rw (r.so_far, e, le-ltb (letter_of b) (letter_of (get_or l.behind 0 0)) t) };
      }
