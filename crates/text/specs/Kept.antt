-- What the server keeps of a name: PostgreSQL keeps 63 bytes, cut at a character boundary (docs/FORMAT.md, Texts, SQL names and SQL texts).
use Rattle.std.specs.Prelude.{ℕ, zero, suc, ◌≤◌, Bool, cond, ◌&&◌, List, Option, Some, None, length, take, nat_le}
use Rattle.text.specs.Rfc3629.{Utf8}
use Rattle.text.specs.Walk.{utf8}

-- How many bytes of a name the server keeps at most
abbrev pub most_kept : ℕ
most_kept = 63

-- k is a character boundary of the text t: the bytes before it are UTF-8 by themselves
pub record CharBoundary (t : List ℕ) (k : ℕ) : Type 0 where
  pub inside : k ≤ length t
  pub before : Utf8 (take k t)

-- The server keeps k bytes of the name t: k is the greatest character boundary at or below 63
pub record ServerKeeps (t : List ℕ) (k : ℕ) : Type 0 where
  pub boundary : CharBoundary t k
  pub small : k ≤ most_kept
  pub greatest : (j : ℕ) → CharBoundary t j → j ≤ most_kept → j ≤ k

-- Whether k is a character boundary of t
abbrev pub is_boundary : List ℕ → ℕ → Bool
is_boundary t k = nat_le k (length t) && utf8 (take k t)

-- The greatest character boundary of t at or below n. The start of a text is one
unfoldable pub boundary_up_to : List ℕ → ℕ → ℕ
boundary_up_to t zero = zero
boundary_up_to t (suc n) = cond (is_boundary t (suc n)) (suc n) (boundary_up_to t n)

-- How many bytes of the name t the server keeps
unfoldable pub kept_length : List ℕ → ℕ
kept_length t = boundary_up_to t most_kept

-- What is answered of bytes: they are UTF-8, and so many of them are kept as a name; or they are not
pub data TextAnswer : Type 0 where
  text_kept : ℕ → TextAnswer
  no_text : TextAnswer

-- The answer for the bytes t
unfoldable pub check_text : List ℕ → TextAnswer
check_text t = cond (utf8 t) (text_kept (kept_length t)) no_text

-- The answer by RFC 3629's grammar
abbrev pub ExactCheck : List ℕ → TextAnswer → Type 0
ExactCheck t (text_kept k) = Utf8 t × ServerKeeps t k
ExactCheck t no_text = Utf8 t → ⊥

-- The meaning of the code's answer
abbrev pub text_answer : Option ℕ → TextAnswer
text_answer (Some k) = text_kept k
text_answer None = no_text
