-- What the functions of the cycle ask of each other, and where the loop over blocks stands. Assumes nothing.
use Prim.Native.Nat.{ℕ, ◌+◌, ◌-◌, ◌*◌, ◌%◌, ◌^◌, ◌≤◌, ◌<◌}
use mathlib.Core.Path.{◌≡◌, refl, sym, ap, ◌∙◌}
use mathlib.Core.Bool.{Bool}
use mathlib.Core.List.{List, ◌∷◌}
use native.Mathlib.Omega.{arith}
use lib.ListN.{length, take, drop, get_or, length-drop}
use lib.Seq.{take_all, length-take-le, drop-drop, get_or-take, get_or-drop}
use borrow.Rule.Slice.PartMut.{put_mid, drop_put, same_len_mid}
use Rattle.lines.specs.Lines.{span, spans_of}
use Rattle.lines.proofs.SpanLaws.{span-at, span-count}
use Rattle.measure.specs.Measure.{measure_of}
use Rattle.measure.specs.declared.Measured.{Measured}
use Rattle.events.specs.View.{view, Fits, Stacks}
use Rattle.events.specs.declared.St.{St}
use Rattle.walk.specs.Bounds.{Near}
use Rattle.walk.specs.Tree.{run_of, block_of, container_at}
use Rattle.walk.specs.declared.Limits.{Limits}
use Rattle.tree.proofs.MeasuredLaws.{Takes, measure-takes, measure-near}
use Rattle.tree.proofs.RunLaws.{run-stop, run_on}

-- ---- the state in its rooms
pub fits-as : (s r : St) (e k : List ℕ) → r.words ≡ s.words → r.depth ≡ s.depth → Fits s e k → Fits r e k
fits-as s r e k p q h = record { words = omega (arith, p, h.words); depth = omega (arith, q, h.depth); room = h.room }

pub stacks-after : (s r : St) (l v l' v' : List ℕ) → r.lists * 5 ≤ length l' → length l' ≡ length l → r.sections ≤ length v' → length v' ≡ length v → Stacks s l v → Stacks r l' v'
stacks-after s r l v l' v' p q u w h = record { lists = p; listroom = omega (arith, q, h.listroom); sections = u; levels = omega (arith, w, h.levels) }

pub open-words : (s : St) (e k l v : List ℕ) → s.words ≤ length e → s.words ≡ length (view s e k l v).evs
open-words s e k l v h = sym (length-take-le s.words e h)

pub open-depth : (s : St) (e k l v : List ℕ) → s.depth ≤ length k → s.depth ≡ length (view s e k l v).opn
open-depth s e k l v h = sym (length-take-le s.depth k h)

-- ---- the loop over blocks: the words from `at` on are still as they were
pub record Loop (text : List ℕ) (lim : Limits) (left : ℕ) (top : Bool) (ws₀ ev₀ sk₀ ls₀ lv₀ : List ℕ) (a₀ : St) (n : ℕ) (ws ev sk ls lv : List ℕ) (a : St) (at : ℕ) : Type 0 where
  pub count : n ≡ length ws₀
  pub within : at ≤ length ws
  pub len : length ws ≡ length ws₀
  pub evs : length ev ≡ length ev₀
  pub stk : length sk ≡ length sk₀
  pub lst : length ls ≡ length ls₀
  pub lev : length lv ≡ length lv₀
  pub tail : drop at ws ≡ drop at ws₀
  pub fits : Fits a ev sk
  pub stacks : Stacks a ls lv
  pub rest : run_of text (block_of text lim (container_at text lim left) left top) (spans_of (drop at ws)) 0 (view a ev sk ls lv)
      ≡ run_of text (block_of text lim (container_at text lim left) left top) (spans_of ws₀) 0 (view a₀ ev₀ sk₀ ls₀ lv₀)

module _ (text : List ℕ) (lim : Limits) (left : ℕ) (top : Bool) (ws₀ ev₀ sk₀ ls₀ lv₀ : List ℕ) (a₀ : St) (n : ℕ) (ws ev sk ls lv : List ℕ) (a : St) (at : ℕ)
    (L : Loop text lim left top ws₀ ev₀ sk₀ ls₀ lv₀ a₀ n ws ev sk ls lv a at) (test : 2 ≤ n - at) (m : Measured) (em : m ≡ measure_of text (spans_of (take (length ws - at) (drop at ws)))) where
  whole : take (length ws - at) (drop at ws) ≡ drop at ws
  whole = take_all (length ws - at) (drop at ws) (omega (arith, length-drop at ws))

  two : 2 ≤ length ws - at
  two = omega (arith, L.count, L.len)

  begun : m ≡ measure_of text (spans_of (drop at ws))
  begun = em ∙ ap (λ (x : List ℕ). measure_of text (spans_of x)) whole

  head : spans_of (drop at ws) ≡ span (get_or (drop at ws) 0 0) (get_or (drop at ws) 1 0) ∷ drop 1 (spans_of (drop at ws))
  head = span-at (drop at ws) 0 (omega (arith, two, length-drop at ws))

  pub taken : Takes (length (spans_of (drop at ws))) m
  taken = rw (begun, head) (measure-takes text _ _)

  pub some : m.given < m.lines
  some = taken.some

  pub room : at + 2 * (m.lines - m.given) ≤ length ws
  room = omega (arith, taken.few, span-count (drop at ws), length-drop at ws, two)

  part-is : take (at + 2 * (m.lines - m.given) - at) (drop at ws) ≡ take (2 * (m.lines - m.given)) (drop at ws)
  part-is =
      let e : at + 2 * (m.lines - m.given) - at ≡ 2 * (m.lines - m.given) = omega arith in
      rw e

  part_length : length (take (at + 2 * (m.lines - m.given) - at) (drop at ws)) ≡ 2 * (m.lines - m.given)
  part_length = rw part-is (length-take-le (2 * (m.lines - m.given)) (drop at ws) (omega (arith, room, length-drop at ws)))

  pub part-two : 2 ≤ length (take (at + 2 * (m.lines - m.given) - at) (drop at ws))
  part-two = omega (arith, part_length, some)

  pub part-even : length (take (at + 2 * (m.lines - m.given) - at) (drop at ws)) % 2 ≡ 0
  part-even = omega (arith, part_length)

  pub near : ((i : ℕ) → get_or ws₀ i 0 < 2 ^ 32) → Near (get_or (take (at + 2 * (m.lines - m.given) - at) (drop at ws)) 0 0) m
  near known =
      let p : get_or (take (at + 2 * (m.lines - m.given) - at) (drop at ws)) 0 0 ≡ get_or (drop at ws) 0 0
      = get_or-take (at + 2 * (m.lines - m.given) - at) (drop at ws) 0 0 (omega (arith, some)) in
      let q : (j : ℕ) → get_or (drop at ws) j 0 ≡ get_or ws₀ (at + j) 0 = λ j. ap (λ (x : List ℕ). get_or x j 0) L.tail ∙ get_or-drop at ws₀ j 0 in
      let b = measure-near text (span (get_or (drop at ws) 0 0) (get_or (drop at ws) 1 0)) (drop 1 (spans_of (drop at ws))) (rw (q 0) (known (at + 0))) (rw (q 1) (known (at + 1))) in
      rw (p, begun, head) b

  module _ (ys ev' sk' ls' lv' : List ℕ) (r : St)
      (er : view r ev' sk' ls' lv' ≡ block_of text lim (container_at text lim left) left top m (spans_of (take (at + 2 * (m.lines - m.given) - at) (drop at ws))) (view a ev sk ls lv))
      (ly : length ys ≡ length (take (at + 2 * (m.lines - m.given) - at) (drop at ws))) where
    pub stop : (r.number ≡ 0 → ⊥) → view r ev' sk' ls' lv' ≡ run_of text (block_of text lim (container_at text lim left) left top) (spans_of ws₀) 0 (view a₀ ev₀ sk₀ ls₀ lv₀)
    stop z =
        sym (run-stop text (block_of text lim (container_at text lim left) left top) ws (drop at ws) (take (at + 2 * (m.lines - m.given) - at) (drop at ws)) at (m.lines - m.given) (view a ev sk ls lv) m two refl begun refl (omega (arith, some)) part-is (view r ev' sk' ls' lv') er z)
        ∙ L.rest

    after : drop (at + 2 * (m.lines - m.given)) (put_mid at (at + 2 * (m.lines - m.given) - at) ws ys) ≡ drop (at + 2 * (m.lines - m.given)) ws
    after = drop_put at (at + 2 * (m.lines - m.given)) ws ys (omega arith) room (omega (arith, ly, part_length))

    pub same : length (put_mid at (at + 2 * (m.lines - m.given) - at) ws ys) ≡ length ws
    same = same_len_mid at (at + 2 * (m.lines - m.given) - at) ws ys ly

    pub less : n - (at + 2 * (m.lines - m.given)) < n - at
    less = omega (arith, some, room, L.count, L.len, test)

    pub again : r.number ≡ 0 → Fits r ev' sk' → Stacks r ls' lv' → length ev' ≡ length ev → length sk' ≡ length sk → length ls' ≡ length ls → length lv' ≡ length lv
        → Loop text lim left top ws₀ ev₀ sk₀ ls₀ lv₀ a₀ n (put_mid at (at + 2 * (m.lines - m.given) - at) ws ys) ev' sk' ls' lv' r (at + 2 * (m.lines - m.given))
    again z f g le lk lt lu = record {
      count = L.count;
      within = omega (arith, room, same);
      len = same ∙ L.len;
      evs = le ∙ L.evs;
      stk = lk ∙ L.stk;
      lst = lt ∙ L.lst;
      lev = lu ∙ L.lev;
      tail = after ∙ sym (drop-drop (2 * (m.lines - m.given)) at ws) ∙ ap (λ (x : List ℕ). drop (2 * (m.lines - m.given)) x) L.tail ∙ drop-drop (2 * (m.lines - m.given)) at ws₀;
      fits = f;
      stacks = g;
      rest = sym (run_on text (block_of text lim (container_at text lim left) left top) ws (drop at ws) (take (at + 2 * (m.lines - m.given) - at) (drop at ws)) at (m.lines - m.given) (view a ev sk ls lv) m two refl begun refl (omega (arith, some)) part-is (view r ev' sk' ls' lv') er (put_mid at (at + 2 * (m.lines - m.given) - at) ws ys) (at + 2 * (m.lines - m.given)) refl after z) ∙ L.rest;
    }
