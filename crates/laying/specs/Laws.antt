-- Laws of bytes laid one behind the other. Assumes nothing.
use Rattle.std.specs.Prelude.{◌≡◌, take, drop, set, replicate}
use Rattle.std.proofs.Math.Path.{refl, sym, ap}
use Rattle.std.proofs.Common.{◌∙◌, ap₂, length-drop, length-set, take-append-drop, take_at, drop_at, drop-drop, take_all, ext_get_or, get_or-set_same, get_or-set_other, get_or-take, get_or-drop}
use Rattle.std.proofs.Math.Logic.{by_cases}
use mathlib.Core.List.{List, [], ◌∷◌, ◌++◌, append_assoc}
use Prim.Native.Nat.{ℕ, zero, suc, ◌+◌, ◌-◌, ◌*◌, ◌≤◌, ◌<◌}
use Rattle.std.proofs.Math.Decide.{ℕ_discrete, dec_lt}
use native.Mathlib.Omega.{arith}
use Rattle.std.proofs.Math.ListN.{length, length-append, get_or-eq_default}
use Rattle.std.proofs.lemmas.List.{length-replicate, get_or-replicate, set_split}
use Rattle.std.proofs.Math.Seq.{length-take-le, take-suc}
use Rattle.basics.specs.Decide.{at}
use Rattle.scanning.specs.Zero.{ZeroFrom}
use Rattle.laying.specs.declared.Writer.{Writer}
use Rattle.laying.specs.Laid.{laid, Lays, twos, high_byte, low_byte, pairs, numbers, pair_at}
use Rattle.laying.specs.Writing.{HasRoom, Adds}

module _ (b : List ℕ) (p : ℕ) (t : List ℕ) (m : p + length t ≤ length b) where
  -- up to the end of what was laid
  front : List ℕ
  front = take p b ++ t

  front_size : length front ≡ p + length t
  unfolding front
  front_size = omega (arith, length-append (take p b) t, length-take-le p b (omega arith))

  front_laid : laid b p t ≡ front ++ drop (p + length t) b
  unfolding laid front
  front_laid = sym (append_assoc (take p b) t (drop (p + length t) b))

  pub laid_size : length (laid b p t) ≡ length b
  laid_size = rw front_laid (omega (arith, front_size, length-append front (drop (p + length t) b), length-drop (p + length t) b))

  laid_front : take (p + length t) (laid b p t) ≡ front
  laid_front = rw front_laid (take_at front (drop (p + length t) b) (p + length t) front_size)

  laid_past : (n : ℕ) → drop ((p + length t) + n) (laid b p t) ≡ drop ((p + length t) + n) b
  laid_past n =
      sym (drop-drop n (p + length t) (laid b p t))
      ∙ ap (λ (r : List ℕ). drop n r) (rw front_laid (drop_at front (drop (p + length t) b) (p + length t) front_size))
      ∙ drop-drop n (p + length t) b

-- bytes behind others are the two together
pub laid_laid : (b : List ℕ) (p : ℕ) (t u : List ℕ) → p + length t ≤ length b → laid (laid b p t) (p + length t) u ≡ laid b p (t ++ u)
unfolding laid front
laid_laid b p t u m =
    let n : p + length (t ++ u) ≡ (p + length t) + length u = omega (arith, length-append t u) in
    rw (n, laid_front b p t m, laid_past b p t m (length u), append_assoc t u (drop ((p + length t) + length u) b))
    (append_assoc (take p b) t (u ++ drop ((p + length t) + length u) b))

laid_none : (b : List ℕ) (p : ℕ) → b ≡ laid b p []
unfolding laid
laid_none b p = let e : p + 0 ≡ p = omega arith in rw e (sym (take-append-drop p b))

laid_one : (b : List ℕ) (p x : ℕ) → p < length b → set b p x ≡ laid b p (x ∷ [])
unfolding laid
laid_one b p x l = let e : p + 1 ≡ suc p = omega arith in rw e (set_split b p x l)

-- The same with the position behind

pub lays_none : (b : List ℕ) (p : ℕ) → p ≤ length b → Lays b p [] b p
lays_none b p m = record { whole = laid_none b p; size = refl; ends = omega arith; inside = m }

pub lays_one : (b : List ℕ) (p x : ℕ) → p < length b → Lays b p (x ∷ []) (set b p x) (p + 1)
lays_one b p x l = record { whole = laid_one b p x l; size = length-set b p x; ends = refl; inside = omega (arith, length-set b p x) }

pub lays_then : {b : List ℕ} {p : ℕ} {t u a c : List ℕ} {to end : ℕ} → Lays b p t a to → Lays a to u c end → Lays b p (t ++ u) c end
lays_then {b} {p} {t} {u} l k = record {
  whole = k.whole ∙ rw (l.whole, l.ends) (laid_laid b p t u (omega (arith, l.size, l.ends, l.inside)));
  size = k.size ∙ l.size;
  ends = omega (arith, k.ends, l.ends, length-append t u);
  inside = k.inside;
}

pub lays_two : {b : List ℕ} {p x y : ℕ} {a c : List ℕ} {to end : ℕ} → Lays b p (x ∷ []) a to → Lays a to (y ∷ []) c end → Lays b p (x ∷ y ∷ []) c end
lays_two l k = lays_then l k

pub one_room : {b : List ℕ} {p x : ℕ} {a : List ℕ} {to : ℕ} → Lays b p (x ∷ []) a to → (to ≡ p + 1) × (length a ≡ length b)
one_room l = (l.ends, l.size)

-- the same bytes, said otherwise
pub lays_as : {b : List ℕ} {p : ℕ} {t u a : List ℕ} {to : ℕ} → t ≡ u → Lays b p t a to → Lays b p u a to
lays_as e l = rw (sym e) l

-- The same of a writer

pub adds_none : {w : Writer} → w.end ≤ length w.bytes.now → Adds w [] w
adds_none l = record { lays = lays_none _ _ l; lent = refl }

pub adds_then : {u v w : Writer} {s t : List ℕ} → Adds u s v → Adds v t w → Adds u (s ++ t) w
adds_then a b = record { lays = lays_then a.lays b.lays; lent = b.lent ∙ a.lent }

pub adds_as : {v w : Writer} {s t : List ℕ} → s ≡ t → Adds v s w → Adds v t w
adds_as e a = record { lays = lays_as e a.lays; lent = a.lent }

-- Two bytes for each number of a list, and the loop that has laid them for the first i

module _ (f g : ℕ → ℕ) where
  pub twos_size : (xs : List ℕ) → length (twos f g xs) ≡ 2 * length xs
  unfolding twos
  twos_size [] = refl
  twos_size (x ∷ xs) = omega (arith, twos_size xs)

  twos_append : (xs ys : List ℕ) → twos f g (xs ++ ys) ≡ twos f g xs ++ twos f g ys
  unfolding twos
  twos_append [] ys = refl
  twos_append (x ∷ xs) ys = ap (λ (r : List ℕ). f x ∷ g x ∷ r) (twos_append xs ys)

  pub record Laying (xs : List ℕ) (before after : Writer) (i : ℕ) : Type 0 where
    pub most : i ≤ length xs
    pub fits : HasRoom before (2 * length xs)
    pub adds : Adds before (twos f g (take i xs)) after

  pub laying_start : (xs : List ℕ) (w : Writer) → HasRoom w (2 * length xs) → Laying xs w w 0
  unfolding twos
  laying_start xs w l = record { most = omega arith; fits = l; adds = adds_none (omega arith) }

  module _ (xs : List ℕ) (i : ℕ) {u v : Writer} (h : Laying xs u v i) where
    -- there is room for two more
    pub laying_room : i < length xs → HasRoom v 2
    laying_room l = omega (arith, h.adds.lays.ends, h.adds.lays.size, h.fits, twos_size (take i xs), length-take-le i xs h.most)

    pub laying_next : {x y : ℕ} {w : Writer} → i < length xs → x ≡ f (at xs i) → y ≡ g (at xs i) → Adds v (x ∷ y ∷ []) w → Laying xs u w (i + 1)
    unfolding twos
    laying_next l e k j =
        let one : i + 1 ≡ suc i = omega arith in
        record {
          most = omega arith;
          fits = h.fits;
          adds = adds_as (rw (one, take-suc xs i 0 l, twos_append (take i xs) (at xs i ∷ []), e, k)) (adds_then h.adds j);
        }

    pub laying_all : length xs ≤ i → Adds u (twos f g xs) v
    laying_all l = adds_as (ap (twos f g) (take_all i xs l)) h.adds

-- 16-bit numbers

pub pairs_size : (xs : List ℕ) → length (pairs xs) ≡ 2 * length xs
unfolding pairs
pairs_size xs = twos_size high_byte low_byte xs

pub numbers_size : (bs : List ℕ) (n : ℕ) → length bs ≡ 2 * n → length (numbers bs) ≡ n
unfolding numbers
numbers_size [] n e = omega (arith, e)
numbers_size (h ∷ []) n e = absurd (omega (arith, e))
numbers_size (h ∷ l ∷ bs) zero e = absurd (omega (arith, e))
numbers_size (h ∷ l ∷ bs) (suc n) e = omega (arith, numbers_size bs n (omega (arith, e)))

pub numbers_at : (bs : List ℕ) (k : ℕ) → 2 * k + 1 < length bs → at (numbers bs) k ≡ pair_at bs (2 * k)
unfolding numbers
numbers_at [] k l = absurd (omega (arith, l))
numbers_at (h ∷ []) k l = absurd (omega (arith, l))
numbers_at (h ∷ m ∷ bs) zero l = refl
numbers_at (h ∷ m ∷ bs) (suc k) l =
    let a : suc (suc (2 * k)) ≡ 2 * suc k = omega arith in
    let b : suc (suc (2 * k + 1)) ≡ 2 * suc k + 1 = omega arith in
    numbers_at bs k (omega (arith, l))
    ∙ ap₂ (λ (x y : ℕ). x * 256 + y) (ap (at (h ∷ m ∷ bs)) a) (ap (at (h ∷ m ∷ bs)) b)

-- numbers that are laid are read back, and so are bytes
pub numbers_pairs : (xs : List ℕ) → numbers (pairs xs) ≡ xs
unfolding numbers pairs twos
numbers_pairs [] = refl
numbers_pairs (x ∷ xs) = ap₂ ◌∷◌ (omega arith) (numbers_pairs xs)

pub pairs_numbers : (bs : List ℕ) (n : ℕ) → length bs ≡ 2 * n → ((i : ℕ) → at bs i < 256) → pairs (numbers bs) ≡ bs
unfolding numbers pairs twos
pairs_numbers [] n e f = refl
pairs_numbers (h ∷ []) n e f = absurd (omega (arith, e))
pairs_numbers (h ∷ l ∷ bs) zero e f = absurd (omega (arith, e))
pairs_numbers (h ∷ l ∷ bs) (suc n) e f =
    let low : l < 256 = f 1 in
    ap₂ ◌∷◌ (omega (arith, low)) (ap₂ ◌∷◌ (omega (arith, low)) (pairs_numbers bs n (omega (arith, e)) (λ i. f (suc (suc i)))))

-- The loop that has loaded so many

-- to has the length that it should, and its first i numbers are those of the bytes
pub record Loading (bytes to : List ℕ) (i : ℕ) : Type 0 where
  pub most : i ≤ length to
  pub size : length bytes ≡ 2 * length to
  pub same : (k : ℕ) → k < i → at to k ≡ pair_at bytes (2 * k)

pub load_start : (bytes to : List ℕ) → length bytes ≡ 2 * length to → Loading bytes to 0
load_start bytes to e = record { most = omega arith; size = e; same = λ k l. absurd (omega arith) }

-- from position i on, two lists have the same
abbrev pub Same : List ℕ → List ℕ → ℕ → Type 0
Same xs ys i = (k : ℕ) → i ≤ k → at ys k ≡ at xs k

pub zeros_at : (n k : ℕ) → at (replicate n 0) k ≡ 0
zeros_at n k = by_cases (dec_lt k n) (λ l. get_or-replicate {A = ℕ} n k 0 0 l) (λ l. get_or-eq_default (replicate n 0) 0 {n = k} (omega (arith, length-replicate {A = ℕ} n 0)))

-- of 128 numbers those from stop on, a multiple of 16, are 0
pub record Stops (bytes : List ℕ) (stop : ℕ) : Type 0 where
  pub most : stop ≤ 128
  pub step : (j : ℕ) × (stop ≡ j * 16)
  pub idle : ZeroFrom bytes (2 * stop) 256

-- past numbers that are 0 and are there already
pub load_past : (bytes to : List ℕ) (i j : ℕ) → i ≤ j → j ≤ length to → ZeroFrom bytes (2 * i) (2 * j) → ((k : ℕ) → i ≤ k → at to k ≡ 0) → Loading bytes to i → Loading bytes to j
load_past bytes to i j l m f z c = record {
  most = m;
  size = c.size;
  same = λ k b. by_cases (dec_lt k i) (λ h. c.same k h) (λ h. z k (omega arith) ∙ sym (let e = f (2 * k) (omega arith) (omega arith) in let g = f (2 * k + 1) (omega arith) (omega arith) in rw (e, g)));
}

pub load_next : (bytes to : List ℕ) (i x : ℕ) → i < length to → x ≡ pair_at bytes (2 * i) → Loading bytes to i → Loading bytes (set to i x) (i + 1)
load_next bytes to i x l e c = record {
  most = omega (arith, length-set to i x);
  size = omega (arith, c.size, length-set to i x);
  same = λ k m. by_cases (ℕ_discrete k i)
      (λ f. rw f (get_or-set_same to i x 0 l ∙ e))
      (λ f. get_or-set_other to i k x 0 f ∙ c.same k (omega arith));
}

pub load_all : (bytes to : List ℕ) (i : ℕ) → length to ≤ i → Loading bytes to i → to ≡ numbers bytes
load_all bytes to i l c =
    ext_get_or 0 to (numbers bytes) (sym (numbers_size bytes (length to) c.size))
    (λ k m. c.same k (omega arith) ∙ sym (numbers_at bytes k (omega (arith, c.size))))

-- Bytes laid as a part that is lent

pub lays_part : (b : List ℕ) (p : ℕ) (bytes ys : List ℕ) → p + length bytes ≤ length b → ys ≡ bytes
    → Lays b p bytes (take p b ++ (ys ++ drop ((p + length bytes) - p) (drop p b))) (p + length bytes)
unfolding laid
lays_part b p bytes ys m e =
    let w : (p + length bytes) - p ≡ length bytes = omega arith in
    let same : take p b ++ (ys ++ drop ((p + length bytes) - p) (drop p b)) ≡ laid b p bytes = rw (w, drop-drop, e) in
    record {
      whole = same;
      size = ap length same ∙ laid_size b p bytes m;
      ends = refl;
      inside = omega (arith, m, ap length same, laid_size b p bytes m);
    }

-- a number that begins a part
pub part_number : (b : List ℕ) (p : ℕ) → pair_at (take ((p + 2) - p) (drop p b)) 0 ≡ pair_at b p
part_number b p =
    let w : (p + 2) - p ≡ 2 = omega arith in
    let z : p + 0 ≡ p = omega arith in
    rw (w, get_or-take 2 (drop p b) 0 0 (omega arith), get_or-take 2 (drop p b) 1 0 (omega arith), get_or-drop p b 0 0, get_or-drop p b 1 0, z)
