-- The machine's run byte by byte: what is answered is what is held so far and what is to come. Assumes nothing.
use Prim.Native.Nat.{ℕ, ◌+◌, ◌-◌, ◌*◌, ◌/◌, ◌≤◌, ◌<◌}
use mathlib.Core.Path.{◌≡◌, refl, sym, ap, ◌∙◌}
use mathlib.Core.Bool.{Bool, true, false, not, true≢false}
use mathlib.Core.List.{List, [], ◌∷◌, ◌++◌, map}
use native.Mathlib.Omega.{arith}
use lib.Dec.{T, eqb, leb, ltb}
use lib.ListN.{length, get_or, take, drop, replicate, length-append, length-drop, drop_of_length-le}
use lib.Seq.{length-take-le, get_or-drop}
use native.Mathlib.Nat.{add-zero}
use borrow.Author.Tests.{eqb-true, eqb-false, eq-eqb, ne_eqb, lt-ltb, le-ltb}
use Rattle.std.specs.Prelude.{Result, Ok, Err}
use Rattle.refusals.specs.Numbers.{number_of}
use Rattle.refusals.specs.declared.Refused.{Refused}
use Rattle.refusals.proofs.NumberLaws.{number-some}
use Rattle.classes.specs.Choice.{pick, both, either}
use Rattle.classes.specs.Classes.{is_space, is_name}
use Rattle.classes.proofs.ListLaws.{drop-next}
use Rattle.classes.proofs.TableLaws.{every, at}
use Rattle.attrs.specs.Machine.{sign_class, class_of, next_of, step_of}
use Rattle.trim.specs.Trim.{trim_end}
use Rattle.sets.specs.Given.{Kind, kind_num, APair, AComment, Given, Told, told, Element, Verdict, Good, Bad, stays, left_by, given_by, begun_by, halts, onward, given_from, verdict_from}
use Rattle.sets.specs.Opened.{Held, held, full, pieces_in, hold_in, hold_all, judged, finish, refused_as, Outcome, open_of, element_width}
use Rattle.sets.specs.View.{held_in, held_by, Onward, is_owned, owns, complete_by}
use Rattle.sets.specs.declared.reader.Reader.{Reader}
use Rattle.sets.proofs.HoldLaws.{hold-one, left-comment-first, left_key}

-- ---- a value goes on only where an element is
less : (t : Bool) (x y : ℕ) → x < 12 → y < 12 → pick t x y < 12
less true x y h k = h
less false x y h k = k

class-less : (b : ℕ) → class_of b < 12
unfolding class_of sign_class
class-less b =
    less (is_name b) 10 _ (omega arith) (less (eqb b 123) 0 _ (omega arith) (less (eqb b 125) 1 _ (omega arith) (less (eqb b 46) 2 _ (omega arith)
    (less (eqb b 35) 3 _ (omega arith) (less (eqb b 37) 4 _ (omega arith) (less (eqb b 61) 5 _ (omega arith) (less (eqb b 34) 6 _ (omega arith)
    (less (eqb b 92) 7 _ (omega arith) (less (eqb b 10) 8 _ (omega arith) (less (is_space b) 9 11 (omega arith) (omega arith)))))))))))

abbrev cell : ℕ → ℕ → ℕ → Bool
cell s c x = either (not (is_owned (next_of s c))) (owns s (next_of s c))

abbrev row : ℕ → ℕ → Bool
row s x = every (cell s) 0 0 (replicate 12 0)

owned-test : T (every row 0 0 (replicate 18 0))
unfolding next_of is_owned stays
owned-test = tt

owned-cell : (s c : ℕ) → s < 18 → c < 12 → T (either (not (is_owned (next_of s c))) (owns s (next_of s c)))
owned-cell s c h k = at (cell s) 0 (replicate 12 0) (at row 0 (replicate 18 0) owned-test s h) c k

follows : (a b : Bool) → T (either (not a) b) → a ≡ true → b ≡ true
follows true true t p = refl
follows true false t p = elim t [ ]
follows false b t p = absurd (true≢false (sym p))

pub owned-next : (s b : ℕ) → s < 18 → is_owned (step_of s b) ≡ true → owns s (step_of s b) ≡ true
unfolding step_of
owned-next s b h = follows (is_owned (next_of s (class_of b))) (owns s (next_of s (class_of b))) (owned-cell s (class_of b) h (class-less b))

start-free : is_owned 0 ≡ true → ⊥
unfolding is_owned
start-free i = true≢false (sym i)

-- ---- what is to come goes behind what is held
module _ (ne np : ℕ) where
  hold-stop : (ys : List Told) (h : Held) → eqb h.number 0 ≡ false → hold_all ne np ys h ≡ h
  unfolding hold_all
  hold-stop [] h e = refl
  hold-stop (y ∷ ys) h e = rw e

  hold-append : (xs ys : List Told) (h : Held) → hold_all ne np (xs ++ ys) h ≡ hold_all ne np ys (hold_all ne np xs h)
  unfolding hold_all
  hold-append [] ys h = refl
  hold-append (x ∷ xs) ys h = by-test (hold-append xs ys (hold_in ne np x.place x.what h)) (eqb h.number 0) refl
    where
      by-test : hold_all ne np (xs ++ ys) (hold_in ne np x.place x.what h) ≡ hold_all ne np ys (hold_all ne np xs (hold_in ne np x.place x.what h))
          → (b : Bool) → eqb h.number 0 ≡ b
          → pick b (hold_all ne np (xs ++ ys) (hold_in ne np x.place x.what h)) h ≡ hold_all ne np ys (pick b (hold_all ne np xs (hold_in ne np x.place x.what h)) h)
      by-test more true e = more
      by-test more false e = sym (hold-stop ys h e)

  finish-refused : (len : ℕ) (h : Held) (v : Verdict) → (h.number ≡ 0 → ⊥) → finish ne np len h v ≡ refused_as ne np h.number h.place
  unfolding finish
  finish-refused len h v n = rw (ne_eqb h.number 0 n)

  finish-judged : (len : ℕ) (h : Held) (v : Verdict) → h.number ≡ 0 → finish ne np len h v ≡ judged ne np len h v
  unfolding finish
  finish-judged len h v z = rw (eq-eqb h.number 0 z)

-- ---- one byte of the run
module _ (s a p : ℕ) (xs : List ℕ) (t : ℕ) (h : p < length xs) (e : t ≡ step_of s (get_or xs p 0)) where
  abbrev rest : List ℕ
  rest = drop (p + 1) xs

  given-turn : given_from s a p (drop p xs)
      ≡ pick (eqb t 17) [] (map (told p) (given_by s t a p) ++ pick (halts t rest) [] (given_from (onward t) (begun_by s t a p) (p + 1) rest))
  unfolding given_from
  given-turn = rw (e, drop-next xs p)

  verdict-turn : verdict_from s p (drop p xs)
      ≡ pick (eqb t 17) (Bad p) (pick (halts t rest) (pick (eqb (length rest) 0) Good (Bad (p + 1))) (verdict_from (onward t) (p + 1) rest))
  unfolding verdict_from
  verdict-turn = rw (e, drop-next xs p)

-- a complete set is all there is, or something stands behind it
verdict-end : (xs : List ℕ) (p : ℕ) → p ≤ length xs → pick (eqb (length (drop p xs)) 0) Good (Bad p) ≡ pick (ltb p (length xs)) (Bad p) Good
verdict-end xs p h = by-test (eqb (length (drop p xs)) 0) refl
  where
    by-test : (b : Bool) → eqb (length (drop p xs)) 0 ≡ b → pick b Good (Bad p) ≡ pick (ltb p (length xs)) (Bad p) Good
    by-test true e = rw (le-ltb p (length xs) (omega (arith, length-drop p xs, eqb-true (length (drop p xs)) 0 e)))
    by-test false e = rw (lt-ltb p (length xs) (omega (arith, length-drop p xs, eqb-false (length (drop p xs)) 0 e)))

-- ---- the loop: p bytes of the set are read, and the answer is what is held and what is to come
pub record Going (bytes xs : List ℕ) (r₀ r : Reader) (p : ℕ) : Type 0 where
  pub onward : Onward r₀ r
  pub state : r.state < 18
  pub from : r.from ≤ p
  pub within : p ≤ length xs
  pub owned : is_owned r.state ≡ true → 1 ≤ r.count
  pub whole : open_of bytes (length r₀.elements.now) (length r₀.pieces.now)
      ≡ finish (length r₀.elements.now) (length r₀.pieces.now) (length bytes) (hold_all (length r₀.elements.now) (length r₀.pieces.now) (given_from r.state r.from p (drop p xs)) (held_in r)) (verdict_from r.state p (drop p xs))

module _ (bytes xs : List ℕ) (r₀ : Reader) where
  abbrev ne : ℕ
  ne = length r₀.elements.now

  abbrev np : ℕ
  np = length r₀.pieces.now

  pub going_start : xs ≡ trim_end bytes → r₀.state ≡ 0 → r₀.from ≡ 0 → r₀.count ≡ 0 → r₀.parts ≡ 0 → Going bytes xs r₀ r₀ 0
  unfolding open_of is_owned
  going_start q s f n m = record {
    onward = record { elements = refl; pieces = refl; element_words = refl; piece_words = refl; count = omega arith };
    state = omega (arith, s);
    from = omega (arith, f);
    within = omega arith;
    owned = λ o. absurd (start-free (rw s at o));
    whole = rw (q, s, f, n, m);
  }

  module _ (r : Reader) (p : ℕ) (g : Going bytes xs r₀ r p) where
    pub going_end : length xs ≤ p → open_of bytes ne np ≡ refused_as ne np 14 (length xs)
    unfolding given_from verdict_from hold_all
    going_end h =
        let e : p ≡ length xs = omega (arith, g.within) in
        rw (← e) (g.whole ∙ rw (drop_of_length-le xs h) (finish-judged ne np (length bytes) (held_in r) (Bad p) refl))

    module _ (t : ℕ) (h : p < length xs) (e : t ≡ step_of r.state (get_or xs p 0)) where
      pub going-invalid : t ≡ 17 → open_of bytes ne np ≡ refused_as ne np 14 p
      unfolding hold_all
      going-invalid q =
          g.whole ∙ rw (given-turn r.state r.from p xs t h e, verdict-turn r.state r.from p xs t h e, eq-eqb t 17 q) (finish-judged ne np (length bytes) (held_in r) (Bad p) refl)

      module _ (n : t ≡ 17 → ⊥) where
        abbrev behind : List ℕ
        behind = drop (p + 1) xs

        -- what a step gives, and what is then to come
        abbrev given_now : List Told
        given_now = map (told p) (given_by r.state t r.from p)

        abbrev given_then : List Told
        given_then = pick (halts t behind) [] (given_from (onward t) (begun_by r.state t r.from p) (p + 1) behind)

        abbrev verdict_then : Verdict
        verdict_then = pick (halts t behind) (pick (eqb (length behind) 0) Good (Bad (p + 1))) (verdict_from (onward t) (p + 1) behind)

        whole-next : (h' : Held) → h' ≡ hold_all (length r.elements.now) (length r.pieces.now) given_now (held_in r) → open_of bytes ne np ≡ finish ne np (length bytes) (hold_all ne np given_then h') verdict_then
        whole-next h' v =
            g.whole ∙ rw (given-turn r.state r.from p xs t h e, verdict-turn r.state r.from p xs t h e, ne_eqb t 17 n, v, g.onward.element_words, g.onward.piece_words)
            (ap (λ (x : Held). finish ne np (length bytes) x verdict_then) (hold-append ne np given_now given_then (held_in r)))

        pub going-full : (r' : Reader) (w : Refused) → held_by {X = Unit {0}} r' (Err w) ≡ hold_all (length r.elements.now) (length r.pieces.now) given_now (held_in r) → open_of bytes ne np ≡ refused_as ne np (number_of w.why) w.at
        going-full r' w v =
            let z = number-some w.why in
            whole-next _ v ∙ rw (hold-stop ne np given_then (held_by {X = Unit {0}} r' (Err w)) (ne_eqb (number_of w.why) 0 z)) (finish-refused ne np (length bytes) (held_by {X = Unit {0}} r' (Err w)) _ z)

        module _ (r' : Reader) (v : held_in r' ≡ hold_all (length r.elements.now) (length r.pieces.now) given_now (held_in r)) where
          pub going-complete : true ≡ halts t behind → open_of bytes ne np ≡ complete_by ne np (length bytes) (held_in r') (p + 1) (length xs)
          unfolding hold_all
          going-complete q = whole-next _ v ∙ rw (← q, verdict-end xs (p + 1) (omega (arith, h))) (finish-judged ne np (length bytes) (held_in r') _ refl)

          pub going_on : false ≡ halts t behind → Onward r r' → t < 18
              → r'.state ≡ onward t → r'.from ≡ begun_by r.state t r.from p → (owns r.state t ≡ true → 1 ≤ r'.count) → Going bytes xs r₀ r' (p + 1)
          going_on q w b st fr o = record {
            onward = record {
              elements = w.elements ∙ g.onward.elements;
              pieces = w.pieces ∙ g.onward.pieces;
              element_words = w.element_words ∙ g.onward.element_words;
              piece_words = w.piece_words ∙ g.onward.piece_words;
              count = omega (arith, w.count, g.onward.count);
            };
            state = onward-less;
            from = begun-le;
            within = omega (arith, h);
            owned = owned-on;
            whole = whole-next _ v ∙ rw (← q, st, fr);
          }
            where
              onward-less : r'.state < 18
              onward-less = rw st (by-test (eqb t 16))
                where
                  by-test : (x : Bool) → pick x 0 t < 18
                  by-test true = omega arith
                  by-test false = b

              begun-le : r'.from ≤ p + 1
              begun-le = rw fr (by-test (stays r.state t))
                where
                  by-test : (x : Bool) → pick x r.from p ≤ p + 1
                  by-test true = omega (arith, g.from)
                  by-test false = omega arith

              owned-on : is_owned r'.state ≡ true → 1 ≤ r'.count
              owned-on = rw st (by-test (eqb t 16) refl)
                where
                  by-test : (x : Bool) → eqb t 16 ≡ x → is_owned (pick x 0 t) ≡ true → 1 ≤ r'.count
                  by-test true w i = absurd (start-free i)
                  by-test false w i = o (rw e (owned-next r.state (get_or xs p 0) g.state (rw (← e) i)))

-- ---- a step: it stays in its part, or leaves it
module _ (ne np : ℕ) (h v : Held) (s t a p : ℕ) where
  pub step_stays : true ≡ stays s t → h ≡ hold_all ne np (map (told p) (given_by s t a p)) h
  unfolding hold_all
  step_stays q = rw (← q)

  pub step-leaves : false ≡ stays s t → v ≡ hold_all ne np (map (told p) (left_by s a p)) h → v ≡ hold_all ne np (map (told p) (given_by s t a p)) h
  step-leaves q r = rw (← q) r

pub begun-stays : (s t a p : ℕ) → true ≡ stays s t → a ≡ begun_by s t a p
begun-stays s t a p q = rw (← q)

pub begun-leaves : (s t a p : ℕ) → false ≡ stays s t → p ≡ begun_by s t a p
begun-leaves s t a p q = rw (← q)

pub owns-stays : (s t : ℕ) → true ≡ stays s t → owns s t ≡ true → is_owned s ≡ true
owns-stays s t q = rw (← q) (by-test (is_owned s))
  where
    by-test : (x : Bool) → either x (both (not true) (either (eqb s 2) (eqb s 9))) ≡ true → x ≡ true
    by-test true w = refl
    by-test false w = w

owns-leaves : {A : Type 0} (s t : ℕ) → (is_owned s ≡ true → A) → (s ≡ 2 → A) → (s ≡ 9 → A) → owns s t ≡ true → A
owns-leaves {A} s t f g k w = by-test (is_owned s) (not (stays s t)) (eqb s 2) (eqb s 9) f (λ e. g (eqb-true s 2 e)) (λ e. k (eqb-true s 9 e)) w
  where
    by-test : (x y c d : Bool) → (x ≡ true → A) → (c ≡ true → A) → (d ≡ true → A) → either x (both y (either c d)) ≡ true → A
    by-test true y c d f g k w = f refl
    by-test false true true d f g k w = g refl
    by-test false true false d f g k w = k w
    by-test false false c d f g k w = absurd (true≢false (sym w))

-- an element's words are there once it has begun
module _ (ne np : ℕ) (r z : Reader) (p : ℕ) (v : held_in z ≡ hold_all ne np (map (told p) (left_by r.state r.from p)) (held_in r)) where
  begins : (k : Kind) (x y : ℕ) → left_by r.state r.from p ≡ Element k x y ∷ [] → 1 ≤ z.count
  begins k x y q =
      let w = v ∙ ap (λ (gs : List Given). hold_all ne np (map (told p) gs) (held_in r)) q ∙ sym (hold-one ne np (held_in r) refl (told p (Element k x y))) in
      omega (arith, by-test (leb (length (held_in r).elements + element_width) ne) w, length-take-le (z.count * element_width) z.elements.now z.elements_fit)
    where
      by-test : (b : Bool)
          → held_in z ≡ pick b (held ((held_in r).elements ++ (kind_num k ∷ x ∷ y ∷ pieces_in (held_in r) ∷ pieces_in (held_in r) ∷ [])) (held_in r).pieces) (full p (held_in r))
          → 5 ≤ length (take (z.count * element_width) z.elements.now)
      by-test true w = omega (arith, ap (λ (h : Held). length h.elements) w ∙ length-append (held_in r).elements _)
      by-test false w = absurd (omega (arith, ap (λ (h : Held). h.number) w))

  pub owns-left : (t : ℕ) → (is_owned r.state ≡ true → 1 ≤ r.count) → r.count ≤ z.count → owns r.state t ≡ true → 1 ≤ z.count
  owns-left t o l =
      owns-leaves r.state t (λ i. omega (arith, o i, l))
      (λ q. begins AComment p p (left-comment-first r.state r.from p q)) (λ q. begins APair r.from p (left_key r.state r.from p q))
