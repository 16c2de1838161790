-- Events in words, one of them changed or moved. Assumes nothing.
use Prim.Native.Nat.{ℕ, zero, suc, ◌+◌, ◌*◌, ◌≤◌, ◌<◌}
use mathlib.Core.Path.{◌≡◌, refl, sym, ap, ap₂, ◌∙◌}
use mathlib.Core.List.{List, [], ◌∷◌, ◌++◌, append_assoc}
use native.Mathlib.Omega.{arith}
use native.Mathlib.Nat.{zero-add}
use lib.Dec.{eqb}
use lib.ListN.{length, take, drop, set, length-append, length-drop}
use lib.Seq.{take_at, drop_at, drop-drop, set_at, set-append_left, sets, sets-eq}
use Rattle.classes.specs.Choice.{pick}
use Rattle.events.specs.Events.{width, words_of}
use Rattle.events.specs.Pack.{pack_of}
use Rattle.events.specs.declared.Event.{Event}
use Rattle.events.proofs.PackLaws.{pack-length, pack-append, pack-take, pack-drop, pack-at}

-- ---- a word of one
set-append-add : (xs ys : List ℕ) (n v : ℕ) → set (xs ++ ys) (length xs + n) v ≡ xs ++ set ys n v
set-append-add [] ys n v = ap (λ (i : ℕ). set ys i v) (zero-add n)
set-append-add (x ∷ xs) ys n v =
    let e : suc (length xs) + n ≡ suc (length xs + n) = omega arith in
    ap (λ (i : ℕ). set (x ∷ (xs ++ ys)) i v) e ∙ ap (λ (r : List ℕ). x ∷ r) (set-append-add xs ys n v)

-- an event with another word of body: k of 0 to 3
abbrev pub body_as : ℕ → ℕ → Event → Event
body_as k v e = record {
  role = e.role;
  node = e.node;
  start = e.start;
  end = e.end;
  a = pick (eqb k 0) v e.a;
  b = pick (eqb k 1) v e.b;
  c = pick (eqb k 2) v e.c;
  d = pick (eqb k 3) v e.d;
}

body-words : (k v : ℕ) (e : Event) → k < 4 → set (words_of e) (4 + k) v ≡ words_of (body_as k v e)
body-words zero v e h = refl
body-words (suc zero) v e h = refl
body-words (suc (suc zero)) v e h = refl
body-words (suc (suc (suc zero))) v e h = refl
body-words (suc (suc (suc (suc k)))) v e h = absurd (omega arith)

pub pack-body : (k v : ℕ) (xs : List Event) (x : Event) (ys : List Event) → k < 4
    → set (pack_of (xs ++ (x ∷ ys))) (width * length xs + 4 + k) v ≡ pack_of (xs ++ (body_as k v x ∷ ys))
pack-body k v xs x ys h =
    let n : width * length xs + 4 + k ≡ length (pack_of xs) + (4 + k) = omega (arith, pack-length xs) in
    ap₂ (λ (l : List ℕ) (i : ℕ). set l i v) (pack-at xs x ys) n
    ∙ set-append-add (pack_of xs) (words_of x ++ pack_of ys) (4 + k) v
    ∙ ap (λ (r : List ℕ). pack_of xs ++ r) (set-append_left (words_of x) (pack_of ys) (4 + k) v (omega arith) ∙ ap (λ (w : List ℕ). w ++ pack_of ys) (body-words k v x h))
    ∙ sym (pack-at xs (body_as k v x) ys)

-- ---- one of them
-- one event between
pub pack-past : (xs : List Event) (x : Event) (ys : List Event) (n : ℕ) → n ≡ width * length xs + width → drop n (pack_of (xs ++ (x ∷ ys))) ≡ pack_of ys
pack-past xs x ys n e =
    ap (λ (l : List Event). drop n (pack_of l)) (sym (append_assoc xs (x ∷ []) ys))
    ∙ pack-drop (xs ++ (x ∷ [])) ys n (omega (arith, e, length-append xs (x ∷ [])))

pack-with : (xs : List Event) (x : Event) (ys : List Event) → pack_of xs ++ words_of x ++ pack_of ys ≡ pack_of (xs ++ (x ∷ ys))
unfolding pack_of
pack-with xs x ys = append_assoc (pack_of xs) (words_of x) (pack_of ys) ∙ sym (pack-append xs (x ∷ ys))

pub pack-count : (xs : List Event) (x : Event) (ys : List Event) → width * length xs + width ≤ length (pack_of (xs ++ (x ∷ ys)))
pack-count xs x ys = omega (arith, pack-length (xs ++ (x ∷ ys)), length-append xs (x ∷ ys))

-- the event behind xs becomes y
pub pack-edit : (xs : List Event) (x y : Event) (ys : List Event) (i : ℕ) → i ≡ width * length xs → sets (pack_of (xs ++ (x ∷ ys))) i (words_of y) ≡ pack_of (xs ++ (y ∷ ys))
pack-edit xs x y ys i e =
    let l = pack_of (xs ++ (x ∷ ys)) in
    sets-eq (words_of y) l i (omega (arith, e, pack-count xs x ys))
    ∙ ap₂ (λ (p r : List ℕ). p ++ words_of y ++ r) (pack-take xs (x ∷ ys) i e) (pack-past xs x ys (i + width) (omega (arith, e)))
    ∙ pack-with xs y ys

-- an event with another node
abbrev pub node_as : ℕ → Event → Event
node_as v x = record { role = x.role; node = v; start = x.start; end = x.end; a = x.a; b = x.b; c = x.c; d = x.d }

node_at : (xs : List Event) (x : Event) (ys : List Event)
    → pack_of (xs ++ (x ∷ ys)) ≡ pack_of xs ++ (x.role ∷ []) ++ (x.node ∷ x.start ∷ x.end ∷ x.a ∷ x.b ∷ x.c ∷ x.d ∷ pack_of ys)
unfolding pack_of
node_at xs x ys = pack-append xs (x ∷ ys) ∙ sym (append_assoc (pack_of xs) (x.role ∷ []) _)

pub pack-node : (v : ℕ) (xs : List Event) (x : Event) (ys : List Event) (i : ℕ) → i ≡ width * length xs + 1 → set (pack_of (xs ++ (x ∷ ys))) i v ≡ pack_of (xs ++ (node_as v x ∷ ys))
pack-node v xs x ys i e =
    let p = pack_of xs ++ (x.role ∷ []) in
    ap (λ (l : List ℕ). set l i v) (node_at xs x ys)
    ∙ set_at p x.node _ v i (omega (arith, e, length-append (pack_of xs) (x.role ∷ []), pack-length xs))
    ∙ sym (node_at xs (node_as v x) ys)

-- ys, behind x, come before it, and what stands behind them becomes y
module _ (xs : List Event) (x y : Event) (ys zs : List Event) (i n : ℕ) (e : i ≡ width * length xs) (k : n ≡ width * length ys) where
  abbrev old : List ℕ
  old = pack_of (xs ++ (x ∷ (ys ++ zs)))

  shift-front : take i old ++ take n (drop (i + width) old) ≡ pack_of (xs ++ ys)
  shift-front =
      ap₂ (λ (p q : List ℕ). p ++ q) (pack-take xs (x ∷ (ys ++ zs)) i e)
      (ap (λ (l : List ℕ). take n l) (pack-past xs x (ys ++ zs) (i + width) (omega (arith, e))) ∙ pack-take ys zs n k)
      ∙ sym (pack-append xs ys)

  shift_count : length (pack_of (xs ++ ys)) ≡ i + n
  shift_count = omega (arith, e, k, pack-length (xs ++ ys), length-append xs ys)

  shift-room : i + n + width ≤ length old
  shift-room = omega (arith, e, k, pack-length (xs ++ (x ∷ (ys ++ zs))), length-append xs (x ∷ (ys ++ zs)), length-append ys zs)

  shift_back : drop (i + n + width) old ≡ pack_of zs
  shift_back =
      let all = xs ++ (x ∷ ys) in
      ap (λ (l : List Event). drop (i + n + width) (pack_of l)) (sym (append_assoc xs (x ∷ ys) zs))
      ∙ pack-drop all zs (i + n + width) (omega (arith, e, k, length-append xs (x ∷ ys)))

  pub pack-shift : sets (take i old ++ take n (drop (i + width) old) ++ drop (i + n) old) (i + n) (words_of y) ≡ pack_of (xs ++ (ys ++ (y ∷ zs)))
  pack-shift =
      let p = pack_of (xs ++ ys) in
      let r = drop (i + n) old in
      ap (λ (l : List ℕ). sets (l ++ r) (i + n) (words_of y)) shift-front
      ∙ sets-eq (words_of y) (p ++ r) (i + n) (omega (arith, shift_count, shift-room, length-append p r, length-drop (i + n) old))
      ∙ ap₂ (λ (u w : List ℕ). u ++ words_of y ++ w) (take_at p r (i + n) shift_count)
      (sym (drop-drop width (i + n) (p ++ r)) ∙ ap (λ (l : List ℕ). drop width l) (drop_at p r (i + n) shift_count) ∙ drop-drop width (i + n) old ∙ shift_back)
      ∙ pack-with (xs ++ ys) y zs
      ∙ ap pack_of (append_assoc xs ys (y ∷ zs))
