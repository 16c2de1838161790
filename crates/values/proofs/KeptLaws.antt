-- Elements kept in the words of those that were read. Assumes nothing.
use Prim.Native.Nat.{ℕ, suc, ◌+◌, ◌-◌, ◌*◌, ◌≤◌, ◌<◌}
use mathlib.Core.Path.{◌≡◌, refl, sym, ap, ◌∙◌}
use mathlib.Core.Bool.{Bool, true, false}
use mathlib.Core.List.{List, [], ◌∷◌, ◌++◌, append-nil, append_assoc}
use native.Mathlib.Omega.{arith}
use lib.Dec.{eqb, ltb}
use lib.ListN.{length, take, drop, set, replicate, length-append}
use lib.Seq.{sets, length-sets, drop-set-lt, drop-drop}
use borrow.Author.Tests.{eq-eqb, ne_eqb}
use Rattle.classes.specs.Choice.{pick}
use Rattle.sets.specs.Opened.{Answer, Outcome, Held, judged, finish, open_of}
use Rattle.sets.specs.Given.{Verdict, Good, Bad}
use Rattle.sets.specs.Layout.{Listed, element_in, listed, words_of}
use Rattle.sets.proofs.HoldLaws.{grown}
use Rattle.keys.specs.Keys.{class_key, has_key}
use Rattle.equals.specs.Same.{same}
use Rattle.values.specs.Values.{all_with, last_with, adds, value_in, value_of}

module _ (bytes key : List ℕ) (x : Listed) where
  pub adds_none : has_key bytes key x ≡ false → false ≡ adds bytes key x
  unfolding adds
  adds_none e = rw e

  pub adds-some : has_key bytes key x ≡ true → ltb x.first x.past ≡ adds bytes key x
  unfolding adds
  adds-some e = rw e

-- ---- elements in their order
pub listed_next : (es : List ℕ) (n i : ℕ) → i < n → listed (n - i) (drop (i * 5) es) ≡ element_in (drop (i * 5) es) ∷ listed (n - (i + 1)) (drop ((i + 1) * 5) es)
unfolding listed
listed_next es n i h =
    let e : n - i ≡ suc (n - (i + 1)) = omega (arith, h) in
    let d : i * 5 + 5 ≡ (i + 1) * 5 = omega arith in
    rw (e, drop-drop 5 (i * 5) es, d)

pub listed-end : (es : List ℕ) (n i : ℕ) → n ≤ i → listed (n - i) (drop (i * 5) es) ≡ []
unfolding listed
listed-end es n i h = let e : n - i ≡ 0 = omega (arith, h) in rw e

drop-sets : (vs l : List ℕ) (i k : ℕ) → i + length vs ≤ k → drop k (sets l i vs) ≡ drop k l
drop-sets [] l i k h = refl
drop-sets (v ∷ vs) l i k h = drop-sets vs (set l i v) (suc i) k (omega (arith, h)) ∙ drop-set-lt k l i v (omega (arith, h))

pub words-length : (xs : List Listed) → length (words_of xs) ≡ length xs * 5
unfolding words_of
words-length [] = refl
words-length (x ∷ xs) = omega (arith, words-length xs)

words_append : (xs ys : List Listed) → words_of (xs ++ ys) ≡ words_of xs ++ words_of ys
unfolding words_of
words_append [] ys = refl
words_append (x ∷ xs) ys = rw (words_append xs ys)

-- ---- a loop over the elements: `go i` says what the elements from i on make of those that are kept
pub record Kept (go : ℕ → List Listed → List Listed → List Listed) (n : ℕ) (es₀ es : List ℕ) (m i : ℕ) : Type 0 where
  pub size : length es ≡ length es₀
  pub room : n * 5 ≤ length es₀
  pub below : m ≤ i
  pub within : i ≤ n
  pub ahead : drop (i * 5) es ≡ drop (i * 5) es₀
  pub kept : List Listed
  pub words : take (m * 5) es ≡ words_of kept
  pub count : m ≡ length kept
  pub whole : go 0 (listed n es₀) [] ≡ go i (listed (n - i) (drop (i * 5) es₀)) kept

module _ (go : ℕ → List Listed → List Listed → List Listed) (n : ℕ) (es₀ : List ℕ) where
  pub kept-start : n * 5 ≤ length es₀ → Kept go n es₀ es₀ 0 0
  unfolding words_of
  kept-start h = record { size = refl; room = h; below = omega arith; within = omega arith; ahead = refl; kept = []; words = refl; count = refl; whole = let e : n - 0 ≡ n = omega arith in rw e }

  module _ (es : List ℕ) (m i : ℕ) (k : Kept go n es₀ es m i) where
    pub kept-room : i < n → i * 5 + 5 ≤ length es
    kept-room h = omega (arith, k.size, k.room, h)

    pub kept-end : ((ks : List Listed) → go i [] ks ≡ ks) → n ≤ i
        → (take (m * 5) es ≡ words_of (go 0 (listed n es₀) [])) × (m ≡ length (go 0 (listed n es₀) [])) × (m ≤ n)
    kept-end f h =
        let w = k.whole ∙ ap (λ (xs : List Listed). go i xs k.kept) (listed-end es₀ n i h) ∙ f k.kept in
        (k.words ∙ ap words_of (sym w), k.count ∙ ap (λ (xs : List Listed). length xs) (sym w), omega (arith, k.below, k.within))

    module _ (h : i < n) where
      same-element : element_in (drop (i * 5) es) ≡ element_in (drop (i * 5) es₀)
      same-element = ap element_in k.ahead

      further : drop ((i + 1) * 5) es ≡ drop ((i + 1) * 5) es₀
      further =
          let d : i * 5 + 5 ≡ (i + 1) * 5 = omega arith in
          rw (← d, ← drop-drop 5 (i * 5) es, ← drop-drop 5 (i * 5) es₀, k.ahead)

      abbrev pub others : List Listed
      others = listed (n - (i + 1)) (drop ((i + 1) * 5) es₀)

      abbrev pub it : Listed
      it = element_in (drop (i * 5) es)

      met : (ks : List Listed) → go i (listed (n - i) (drop (i * 5) es₀)) ks ≡ go i (it ∷ others) ks
      met ks = ap (λ (xs : List Listed). go i xs ks) (listed_next es₀ n i h ∙ ap (λ (x : Listed). x ∷ others) (sym same-element))

      pub kept-pass : ((ks : List Listed) → go i (it ∷ others) ks ≡ go (i + 1) others ks) → Kept go n es₀ es m (i + 1)
      kept-pass f = record {
        size = k.size;
        room = k.room;
        below = omega (arith, k.below);
        within = omega (arith, h);
        ahead = further;
        kept = k.kept;
        words = k.words;
        count = k.count;
        whole = k.whole ∙ met k.kept ∙ f k.kept;
      }

      module _ (es' : List ℕ) (y : Listed) where
        pub kept-join : es' ≡ sets es (m * 5) (words_of (y ∷ [])) → ((ks : List Listed) → go i (it ∷ others) ks ≡ go (i + 1) others (ks ++ y ∷ [])) → Kept go n es₀ es' (m + 1) (i + 1)
        unfolding words_of
        kept-join p f = record {
          size = ap (λ (l : List ℕ). length l) p ∙ length-sets es (m * 5) (words_of (y ∷ [])) ∙ k.size;
          room = k.room;
          below = omega (arith, k.below);
          within = omega (arith, h);
          ahead = ap (λ (l : List ℕ). drop ((i + 1) * 5) l) p ∙ drop-sets (words_of (y ∷ [])) es (m * 5) ((i + 1) * 5) (omega (arith, k.below)) ∙ further;
          kept = k.kept ++ y ∷ [];
          words = ap (λ (l : List ℕ). take ((m + 1) * 5) l) p ∙ grown es (words_of (y ∷ [])) (m * 5) ((m + 1) * 5) (omega (arith, k.below, kept-room h)) (omega arith)
              ∙ ap (λ (l : List ℕ). l ++ words_of (y ∷ [])) k.words ∙ sym (words_append k.kept (y ∷ []));
          count = omega (arith, k.count, length-append k.kept (y ∷ []));
          whole = k.whole ∙ met k.kept ∙ f k.kept;
        }

        pub kept-replace : es' ≡ sets es 0 (words_of (y ∷ [])) → ((ks : List Listed) → go i (it ∷ others) ks ≡ go (i + 1) others (y ∷ [])) → Kept go n es₀ es' 1 (i + 1)
        unfolding words_of
        kept-replace p f = record {
          size = ap (λ (l : List ℕ). length l) p ∙ length-sets es 0 (words_of (y ∷ [])) ∙ k.size;
          room = k.room;
          below = omega arith;
          within = omega (arith, h);
          ahead = ap (λ (l : List ℕ). drop ((i + 1) * 5) l) p ∙ drop-sets (words_of (y ∷ [])) es 0 ((i + 1) * 5) (omega arith) ∙ further;
          kept = y ∷ [];
          words = ap (λ (l : List ℕ). take 5 l) p ∙ grown es (words_of (y ∷ [])) 0 5 (omega (arith, kept-room h)) refl;
          count = refl;
          whole = k.whole ∙ met k.kept ∙ f k.kept;
        }

-- ---- what the two loops go by
abbrev pub joining : (Listed → Bool) → ℕ → List Listed → List Listed → List Listed
joining f i xs ks = ks ++ all_with f xs

abbrev pub replacing : (Listed → Bool) → ℕ → List Listed → List Listed → List Listed
replacing f i xs ks = last_with f xs ks

module _ (f : Listed → Bool) where
  pub joining-end : (ks : List Listed) → joining f 0 [] ks ≡ ks
  unfolding all_with
  joining-end ks = append-nil ks

  pub replacing-end : (ks : List Listed) → replacing f 0 [] ks ≡ ks
  unfolding last_with
  replacing-end ks = refl

  module _ (x : Listed) (xs ks : List Listed) where
    pub joining-pass : f x ≡ false → joining f 0 (x ∷ xs) ks ≡ joining f 0 xs ks
    unfolding all_with
    joining-pass e = rw e

    pub joining-take : f x ≡ true → joining f 0 (x ∷ xs) ks ≡ joining f 0 xs (ks ++ x ∷ [])
    unfolding all_with
    joining-take e = rw e (sym (append_assoc ks (x ∷ []) (all_with f xs)))

    pub replacing-pass : f x ≡ false → replacing f 0 (x ∷ xs) ks ≡ replacing f 0 xs ks
    unfolding last_with
    replacing-pass e = rw e

    pub replacing-take : f x ≡ true → replacing f 0 (x ∷ xs) ks ≡ replacing f 0 xs (x ∷ [])
    unfolding last_with
    replacing-take e = rw e

-- one turn of each, by what its step tests
module _ (f : Listed → Bool) (n : ℕ) (es₀ es : List ℕ) (m i : ℕ) (h : i < n) (x : Listed) (q : x ≡ element_in (drop (i * 5) es)) where
  pub joined-pass : Kept (joining f) n es₀ es m i → f x ≡ false → Kept (joining f) n es₀ es m (i + 1)
  joined-pass k e = kept-pass (joining f) n es₀ es m i k h (λ ks. joining-pass f _ _ ks (rw (← q) e))

  pub joined-take : Kept (joining f) n es₀ es m i → f x ≡ true → (es' : List ℕ) → es' ≡ sets es (m * 5) (words_of (x ∷ [])) → Kept (joining f) n es₀ es' (m + 1) (i + 1)
  joined-take k e es' p = kept-join (joining f) n es₀ es m i k h es' x p (λ ks. rw q (joining-take f _ _ ks (rw (← q) e)))

  pub replaced-pass : Kept (replacing f) n es₀ es m i → f x ≡ false → Kept (replacing f) n es₀ es m (i + 1)
  replaced-pass k e = kept-pass (replacing f) n es₀ es m i k h (λ ks. replacing-pass f _ _ ks (rw (← q) e))

  pub replaced-take : Kept (replacing f) n es₀ es m i → f x ≡ true → (es' : List ℕ) → es' ≡ sets es 0 (words_of (x ∷ [])) → Kept (replacing f) n es₀ es' 1 (i + 1)
  replaced-take k e es' p = kept-replace (replacing f) n es₀ es m i k h es' x p (λ ks. rw q (replacing-take f _ _ ks (rw (← q) e)))

-- ---- which of the two makes the value
module _ (bytes key : List ℕ) (xs : List Listed) where
  pub value-class : true ≡ same key class_key → value_in bytes key xs ≡ all_with (adds bytes key) xs
  unfolding value_in
  value-class e = rw (← e)

  pub value-other : false ≡ same key class_key → value_in bytes key xs ≡ last_with (has_key bytes key) xs []
  unfolding value_in
  value-other e = rw (← e)

-- ---- the answer and every word
abbrev Answers : Outcome → Answer → List ℕ → List ℕ → Type 0
Answers o z es ps = (z ≡ o.answer) × (es ≡ o.elements) × (ps ≡ o.pieces)

module _ (bytes key : List ℕ) (ne np : ℕ) (z : Answer) (es ps : List ℕ) (a : z ≡ (open_of bytes ne np).answer) (b : es ≡ (open_of bytes ne np).elements) (c : ps ≡ (open_of bytes ne np).pieces) where
  pub value-refused : (z.number ≡ 0 → ⊥) → Answers (value_of bytes key ne np) z es ps
  unfolding value_of
  value-refused n = rw (ne_eqb (open_of bytes ne np).answer.number 0 (λ e. n (ap (λ (x : Answer). x.number) a ∙ e))) (a, b, c)

  pub value_read : (es' : List ℕ) (m : ℕ) → z.number ≡ 0 → length es' ≡ ne → take (m * 5) es' ≡ words_of (value_in bytes key (listed z.count es))
      → m ≡ length (value_in bytes key (listed z.count es)) → (es'' : List ℕ) → es'' ≡ take (m * 5) es' ++ replicate (length es' - m * 5) 0
      → Answers (value_of bytes key ne np) (record { number = 0; position = length bytes; count = m }) es'' ps
  unfolding value_of
  value_read es' m n l w k es'' q =
      let t = eq-eqb (open_of bytes ne np).answer.number 0 (sym (ap (λ (x : Answer). x.number) a) ∙ n) in
      rw (t, ← a, ← b) (rw (← k), q ∙ rw (w, l, k), c)
