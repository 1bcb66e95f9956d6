-- The verdict on a declaration's result, by its first two tags.
use Prim.Native.Nat.{ℕ}
use mathlib.Core.Logic.{◌≢◌}
use mathlib.Core.Path.{◌≡◌, refl}
use borrow.Author.Tests.{ne_eqb}
use Rattle.layout.specs.Layout.{fine, wrong, other_mapping, error_result}
use Rattle.layout.specs.Entities.{as_or_numeric}

pub error_in : (result mapping : ℕ) → result ≢ 1 → as_or_numeric result mapping ≡ wrong error_result
error_in result mapping h = rw (ne_eqb result 1 h) refl

pub as_in : (result mapping : ℕ) → result ≡ 1 → mapping ≡ 1 → as_or_numeric result mapping ≡ fine
as_in result mapping h k = rw (h, k) refl

pub numeric_in : (result mapping : ℕ) → result ≡ 1 → mapping ≡ 3 → as_or_numeric result mapping ≡ fine
numeric_in result mapping h k = rw (h, k) refl

pub other_in : (result mapping : ℕ) → result ≡ 1 → mapping ≢ 1 → mapping ≢ 3 → as_or_numeric result mapping ≡ wrong other_mapping
other_in result mapping h k l = rw (h, ne_eqb mapping 1 k, ne_eqb mapping 3 l) refl
