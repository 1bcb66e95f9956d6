-- Moving past sentinels.
use Prim.Native.Nat.{ℕ, zero, suc, ◌+◌, ◌-◌, ◌≤◌, ◌<◌}
use native.Mathlib.Omega.{arith}
use mathlib.Core.Bool.{Bool, true, false, cond, and-eq-true_iff}
use mathlib.Core.List.{List}
use mathlib.Core.Path.{◌≡◌, refl, sym, ap, ◌∙◌}
use lib.ListN.{length, take, drop}
use borrow.Author.Tests.{ltb-true, lt-ltb, le-ltb}
use Rattle.layout.proofs.InBytes.{drop_take}
use Rattle.raw_bytes.specs.Bytes.{same}
use Rattle.framing.specs.Entries.{sentinel_bytes}
use Rattle.framing.specs.Places.{entry_end, sentinel_at, skipped, past_sentinels}
use Rattle.framing.proofs.Entries.{whole_here}

-- The test of a payload, which is a part of s
pub payload_test : (s : List ℕ) (begin end : ℕ) → begin ≤ end → begin ≤ length s → (b : Bool) → b ≡ same (take (end - begin) (drop begin s)) sentinel_bytes → b ≡ same (drop begin (take end s)) sentinel_bytes
payload_test s begin end h k b e = e ∙ ap (λ (l : List ℕ). same l sentinel_bytes) (sym (drop_take s begin end h k))

-- The sentinel at a place
module _ (s : List ℕ) (at : ℕ) where
  pub sentinel_none : entry_end s at ≤ at → sentinel_at s at ≡ false
  unfolding sentinel_at
  sentinel_none h = rw (le-ltb at (entry_end s at) h)

  pub sentinel_some : at < entry_end s at → sentinel_at s at ≡ same (drop (at + 4) (take (entry_end s at) s)) sentinel_bytes
  unfolding sentinel_at
  sentinel_some h = rw (lt-ltb at (entry_end s at) h)

  pub sentinel_whole : sentinel_at s at ≡ true → at < entry_end s at
  unfolding sentinel_at
  sentinel_whole e = ltb-true at (entry_end s at) ((and-eq-true_iff _ _).0 e).0

  pub end_inside : at < entry_end s at → entry_end s at ≤ length s
  end_inside h = omega (arith, (whole_here s at h).0, (whole_here s at h).2)

  sentinel_far : length s < at → sentinel_at s at ≡ false
  sentinel_far h = go (sentinel_at s at) refl
    where
      go : (b : Bool) → sentinel_at s at ≡ b → b ≡ false
      go true e = absurd (omega (arith, sentinel_whole e, end_inside (sentinel_whole e)))
      go false e = refl

cond_agree : (b : Bool) (x y z : ℕ) → (b ≡ true → x ≡ y) → cond b x z ≡ cond b y z
cond_agree true x y z h = h refl
cond_agree false x y z h = refl

-- The bound on the number of sentinels makes no difference
skipped_same : (s : List ℕ) (k j at : ℕ) → length s < at + k → length s < at + j → skipped k s at ≡ skipped j s at
unfolding skipped
skipped_same s zero zero at h l = refl
skipped_same s zero (suc j) at h l = sym (rw (sentinel_far s at (omega arith)))
skipped_same s (suc k) zero at h l = rw (sentinel_far s at (omega arith))
skipped_same s (suc k) (suc j) at h l = cond_agree (sentinel_at s at) _ _ at λ e.
    skipped_same s k j (entry_end s at) (omega (arith, sentinel_whole s at e)) (omega (arith, sentinel_whole s at e))

module _ (s : List ℕ) (at : ℕ) where
  pub past_stay : sentinel_at s at ≡ false → past_sentinels s at ≡ at
  unfolding past_sentinels skipped
  past_stay e = rw e

  pub past_on : sentinel_at s at ≡ true → past_sentinels s at ≡ past_sentinels s (entry_end s at)
  unfolding past_sentinels skipped
  past_on e = rw e (skipped_same s (length s) (suc (length s)) (entry_end s at) (omega (arith, sentinel_whole s at e)) (omega arith))
