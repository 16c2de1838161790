-- The lines of a text and their words, one line at a time. Assumes nothing.
use Prim.Native.Nat.{ℕ, suc, ◌+◌, ◌-◌, ◌*◌, ◌≤◌, ◌<◌}
use mathlib.Core.Path.{◌≡◌, refl, sym, ap, ◌∙◌}
use mathlib.Core.Bool.{Bool, true, false}
use mathlib.Core.List.{List, [], ◌∷◌, ◌++◌, append_assoc, append-nil}
use native.Mathlib.Omega.{arith}
use lib.ListN.{length, take, drop, length-append, length-take, length-drop, take-append-drop, drop_of_length-le}
use lib.Seq.{length-take-le, sets, sets-eq, length-sets, take_at, drop_at, drop-drop}
use lib.Dec.{eqb}
use borrow.Author.Tests.{eq-eqb, ne_eqb, lt-ltb, le-ltb}
use Rattle.std.specs.Prelude.{Ok, Err}
use Rattle.classes.specs.Choice.{pick}
use Rattle.lines.specs.Lines.{Span, span, place_of, lines_from, lines_of, words_of, split_of, split_words}
use Rattle.refusals.specs.declared.Refusal.TheVariants.{TextTooLong, LinesFull}
use Rattle.lines.proofs.PlaceLaws.{whole_drop}

-- one line on: up to its newline, or to the end of text
line_on : (s p : ℕ) (bs : List ℕ) → place_of 10 bs < length bs
    → lines_from s p bs ≡ span s (p + place_of 10 bs + 1) ∷ lines_from (p + place_of 10 bs + 1) (p + place_of 10 bs + 1) (drop (place_of 10 bs + 1) bs)
unfolding lines_from place_of
line_on s p [] h = absurd (omega arith)
line_on s p (b ∷ bs) h = by-test (eqb b 10) h (line_on s (p + 1) bs)
  where
    by-test : (t : Bool) → pick t 0 (1 + place_of 10 bs) < suc (length bs)
        → (place_of 10 bs < length bs → lines_from s (p + 1) bs
        ≡ span s (p + 1 + place_of 10 bs + 1) ∷ lines_from (p + 1 + place_of 10 bs + 1) (p + 1 + place_of 10 bs + 1) (drop (place_of 10 bs + 1) bs))
        → pick t (span s (p + 1) ∷ lines_from (p + 1) (p + 1) bs) (lines_from s (p + 1) bs)
        ≡ span s (p + pick t 0 (1 + place_of 10 bs) + 1) ∷ lines_from (p + pick t 0 (1 + place_of 10 bs) + 1) (p + pick t 0 (1 + place_of 10 bs) + 1) (drop (pick t 0 (1 + place_of 10 bs) + 1) (b ∷ bs))
    by-test true q r = let z : p + 0 + 1 ≡ p + 1 = omega arith in rw z
    by-test false q r =
        let z : p + (1 + place_of 10 bs) + 1 ≡ p + 1 + place_of 10 bs + 1 = omega arith in
        let y : 1 + place_of 10 bs + 1 ≡ suc (place_of 10 bs + 1) = omega arith in
        rw (z, y) (r (omega arith))

line-end : (s p : ℕ) (bs : List ℕ) → place_of 10 bs ≡ length bs → s < p + length bs → lines_from s p bs ≡ span s (p + length bs) ∷ []
unfolding lines_from place_of
line-end s p [] h l = let z : p + 0 ≡ p = omega arith in rw (z, ne_eqb s p (λ q. omega arith))
line-end s p (b ∷ bs) h l = by-test (eqb b 10) h (λ e. line-end s (p + 1) bs e (omega arith))
  where
    by-test : (t : Bool) → pick t 0 (1 + place_of 10 bs) ≡ suc (length bs)
        → (place_of 10 bs ≡ length bs → lines_from s (p + 1) bs ≡ span s (p + 1 + length bs) ∷ [])
        → pick t (span s (p + 1) ∷ lines_from (p + 1) (p + 1) bs) (lines_from s (p + 1) bs) ≡ span s (p + suc (length bs)) ∷ []
    by-test true q r = absurd (omega arith)
    by-test false q r =
        let z : p + suc (length bs) ≡ p + 1 + length bs = omega arith in
        rw z (r (omega arith))

-- the same at a line's start, by what `find` says of what is left there
module _ (text : List ℕ) (s k : ℕ) (found : (k ≡ place_of 10 (take (length text - s) (drop s text))) × (k < length (take (length text - s) (drop s text)))) where
  at_place : k ≡ place_of 10 (drop s text)
  at_place = found.0 ∙ ap (λ (l : List ℕ). place_of 10 l) (whole_drop text s)

  pub line-fits : s + k < length text
  line-fits = omega (arith, found.1, length-take (length text - s) (drop s text))

  pub line-more : lines_from s s (drop s text) ≡ span s (s + k + 1) ∷ lines_from (s + k + 1) (s + k + 1) (drop (s + k + 1) text)
  line-more =
      let z : s + (k + 1) ≡ s + k + 1 = omega arith in
      let e = line_on s s (drop s text) (omega (arith, line-fits, at_place, length-drop s text)) in
      (rw (← at_place) at e) ∙ ap (λ (l : List ℕ). span s (s + k + 1) ∷ lines_from (s + k + 1) (s + k + 1) l) (drop-drop (k + 1) s text ∙ ap (λ (n : ℕ). drop n text) z)

pub line-last : (text : List ℕ) (s : ℕ) → place_of 10 (take (length text - s) (drop s text)) ≡ length (take (length text - s) (drop s text)) → s < length text
    → lines_from s s (drop s text) ≡ span s (length text) ∷ []
line-last text s none h =
    let e : s + length (drop s text) ≡ length text = omega (arith, length-drop s text) in
    line-end s s (drop s text) (rw (whole_drop text s) at none) (omega (arith, e)) ∙ rw e

pub lines-done : (text : List ℕ) (s : ℕ) → length text ≤ s → lines_from s s (drop s text) ≡ []
unfolding lines_from
lines-done text s h = rw (drop_of_length-le text h, eq-eqb s s refl)

-- the words of the lines ls stand first in ws, and those behind them are as in ws₀
pub record Put (ws₀ ws : List ℕ) (n : ℕ) (rest all : List Span) : Type 0 where
  pub room : 2 * length all ≤ length ws₀
  pub same : length ws ≡ length ws₀
  pub count : n + length rest ≡ length all
  pub front : take (2 * n) ws ++ words_of rest ≡ words_of all
  pub back : drop (2 * n) ws ≡ drop (2 * n) ws₀

pub put-start : (ws : List ℕ) (all : List Span) → 2 * length all ≤ length ws → Put ws ws 0 all all
put-start ws all h = record { room = h; same = refl; count = omega arith; front = refl; back = refl }

pub put-room : (ws₀ ws : List ℕ) (n : ℕ) (l : Span) (rest all : List Span) → Put ws₀ ws n (l ∷ rest) all → 2 * n + 2 ≤ length ws
put-room ws₀ ws n l rest all p = let c : n + suc (length rest) ≡ length all = p.count in omega (arith, p.room, p.same)

pub put-line : (ws₀ ws : List ℕ) (n s e : ℕ) (rest all : List Span) → Put ws₀ ws n (span s e ∷ rest) all
    → Put ws₀ (sets ws (2 * n) (s ∷ e ∷ [])) (n + 1) rest all
unfolding words_of
put-line ws₀ ws n s e rest all p =
    let c : n + suc (length rest) ≡ length all = p.count in
    let h = put-room ws₀ ws n (span s e) rest all p in
    let l : length (take (2 * n) ws) ≡ 2 * n = length-take-le (2 * n) ws (omega arith) in
    let k : 2 * (n + 1) ≡ 2 * n + 2 = omega arith in
    let w : sets ws (2 * n) (s ∷ e ∷ []) ≡ (take (2 * n) ws ++ (s ∷ e ∷ [])) ++ drop (2 * n + 2) ws = sets-eq (s ∷ e ∷ []) ws (2 * n) h in
    let z : length (take (2 * n) ws ++ (s ∷ e ∷ [])) ≡ 2 * n + 2 = length-append (take (2 * n) ws) (s ∷ e ∷ []) ∙ ap (λ (x : ℕ). x + 2) l in
    record {
      room = p.room;
      same = length-sets ws (2 * n) (s ∷ e ∷ []) ∙ p.same;
      count = omega arith;
      front = rw (k, w) (rw (take_at (take (2 * n) ws ++ (s ∷ e ∷ [])) (drop (2 * n + 2) ws) (2 * n + 2) z) (append_assoc (take (2 * n) ws) (s ∷ e ∷ []) (words_of rest) ∙ p.front));
      back = rw (k, w) (drop_at (take (2 * n) ws ++ (s ∷ e ∷ [])) (drop (2 * n + 2) ws) (2 * n + 2) z ∙ back_more ws₀ ws n p.back);
    }
  where
    back_more : (a b : List ℕ) (m : ℕ) → drop (2 * m) b ≡ drop (2 * m) a → drop (2 * m + 2) b ≡ drop (2 * m + 2) a
    back_more a b m q = sym (drop-drop 2 (2 * m) b) ∙ ap (λ (x : List ℕ). drop 2 x) q ∙ drop-drop 2 (2 * m) a

pub put_all : (ws₀ ws : List ℕ) (n : ℕ) (all : List Span) → Put ws₀ ws n [] all → ws ≡ words_of all ++ drop (2 * length all) ws₀
unfolding words_of
put_all ws₀ ws n all p =
    let c : n + 0 ≡ length all = p.count in
    let d : length all ≡ n = omega arith in
    rw (d, ← p.back, ← p.front, append-nil) (sym (take-append-drop (2 * n) ws))

pub put_rest : (ws₀ ws : List ℕ) (n : ℕ) (rest more all : List Span) → rest ≡ more → Put ws₀ ws n rest all → Put ws₀ ws n more all
put_rest ws₀ ws n rest more all e p = rw (← e) p

-- the three answers
pub too_long : (text ws : List ℕ) (limit : ℕ) → limit < length text → (split_of text limit (length ws) ≡ Err TextTooLong) × (split_words text limit ws ≡ ws)
unfolding split_of split_words
too_long text ws limit h = let e = lt-ltb limit (length text) h in (rw e, rw e)

pub no_room : (text ws : List ℕ) (limit n : ℕ) → length text ≤ limit → n ≡ length (lines_of text) → length ws < 2 * n
    → (split_of text limit (length ws) ≡ Err LinesFull) × (split_words text limit ws ≡ ws)
unfolding split_of split_words
no_room text ws limit n h c r =
    let e = le-ltb limit (length text) h in
    let f = lt-ltb (length ws) (2 * length (lines_of text)) (omega arith) in
    (rw (e, f), rw (e, f))

pub done : (text ws ws' : List ℕ) (limit n : ℕ) → length text ≤ limit → n ≡ length (lines_of text) → 2 * n ≤ length ws
    → ws' ≡ words_of (lines_of text) ++ drop (2 * length (lines_of text)) ws
    → (split_of text limit (length ws) ≡ Ok n) × (split_words text limit ws ≡ ws')
unfolding split_of split_words
done text ws ws' limit n h c r w =
    let e = le-ltb limit (length text) h in
    let f = le-ltb (length ws) (2 * length (lines_of text)) (omega arith) in
    (rw (e, f, c), rw (e, f) (sym w))
