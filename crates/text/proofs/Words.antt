-- Bytes as one number, and its highest bits.
use Rattle.std.proofs.Common.{◌≡◌, ℕ, ◌+◌, ◌-◌, ◌*◌, ◌^◌, ◌<◌, ◌≤◌, Bool, true, false, ltb, List, get_or, refl, ap, mul-le-mul_left, arith, pow_pos, pow-add, ltb-false, ltb-true}
use lib.Bits.{bit_and, bit_or, and_block, and_self, or_add_and, and_le_l, and_le_r}
use Rattle.std.specs.Int.{w32, from_le_bytes}
use Rattle.text.specs.Private.{Ascii}
use Rattle.text.proofs.Blocks.{ascii_join}

-- r, a number of `bits` bits, has the bytes of s from a up to e: if it has no bit of the mask, they are ASCII
pub record Packs (s : List ℕ) (a e bits mask r : ℕ) : Type 0 where
  pub fits : r < 2 ^ bits
  pub ascii : bit_and r mask ≡ 0 → Ascii s a e

-- A byte without its highest bit
low_byte : (b : ℕ) → bit_and b 128 ≡ 0 → b < 256 → b < 128
low_byte b e h = go (ltb b 128) refl
  where
    go : (t : Bool) → ltb b 128 ≡ t → b < 128
    go true t = ltb-true b 128 t
    go false t =
        let k = ltb-false b 128 t in
        let q : b ≡ 1 * 128 + (b - 128) = omega (arith, k) in
        let w : bit_and (1 * 128 + (b - 128)) 128 ≡ bit_and 1 1 * 128 + bit_and (b - 128) 0 = and_block 7 1 1 (b - 128) 0 (omega (arith, k)) (omega arith) in
        absurd (omega (arith, e, ap (λ (x : ℕ). bit_and x 128) q, w, and_self 1))

-- One byte
pub byte : {s : List ℕ} {a e r : ℕ} → e ≤ a + 1 → (r ≡ get_or s a 0) × (r < 256) → Packs s a e 8 128 r
byte {s} {a} {e} {r} l h =
    record {
      fits = h.1;
      ascii = λ z k m u. let p : k ≡ a = omega arith in rw (p, ← h.0) (low_byte r z h.1);
    }

-- The bytes of x, and above them those of y
pub above : (k : ℕ) {s : List ℕ} {a m e j h g x y : ℕ} → h < 2 ^ k → Packs s a m k h x → Packs s m e j g y → Packs s a e (k + j) (h + 2 ^ k * g) (x + 2 ^ k * y)
above k {s} {a} {m} {e} {j} {h} {g} {x} {y} l p q =
    let n : (u v : ℕ) → u + 2 ^ k * v ≡ v * 2 ^ k + u = λ u v. omega arith in
    let b : bit_and (x + 2 ^ k * y) (h + 2 ^ k * g) ≡ bit_and y g * 2 ^ k + bit_and x h = rw (n x y, n h g) (and_block k y g x h p.fits l) in
    record {
      fits = rw (pow-add 2 k j) (omega (arith, p.fits, mul-le-mul_left (2 ^ k) q.fits));
      ascii = λ z. ascii_join s a m m e (omega arith) (p.ascii (omega (arith, b, z))) (q.ascii (omega (arith, b, z, mul-le-mul_left (bit_and y g) (pow_pos k))));
    }

-- Four bytes
pub four_bytes : (w : List ℕ) → ((i : ℕ) → i < 4 → get_or w i 0 < 256) → Packs w 0 4 32 0x8080_8080 (from_le_bytes w32 w)
four_bytes w f =
    let at : (i : ℕ) → i < 4 → Packs w i (i + 1) 8 128 (get_or w i 0) = λ i h. byte (omega arith) (refl, f i h) in
    let r : from_le_bytes w32 w ≡ get_or w 0 0 + 2 ^ 8 * get_or w 1 0 + 2 ^ 16 * get_or w 2 0 + 2 ^ 24 * get_or w 3 0 = omega arith in
    rw r (above 24 (omega arith) (above 16 (omega arith) (above 8 (omega arith) (at 0 (omega arith)) (at 1 (omega arith))) (at 2 (omega arith))) (at 3 (omega arith)))

-- No number is above the bitwise or of itself and another
pub or_l : (x y : ℕ) → x ≤ bit_or x y
or_l x y = omega (arith, or_add_and x y, and_le_r x y)

pub or_r : (x y : ℕ) → y ≤ bit_or x y
or_r x y = omega (arith, or_add_and x y, and_le_l x y)

-- If the bitwise or is 0, so are both numbers
pub or_none : (x y : ℕ) → bit_or x y ≡ 0 → (x ≡ 0) × (y ≡ 0)
or_none x y e = (omega (arith, e, or_l x y), omega (arith, e, or_r x y))
