-- ASCII in a text: joining parts, and walking over them.
use Rattle.std.proofs.Common.{◌≡◌, ℕ, zero, suc, ◌+◌, ◌-◌, ◌*◌, length-drop, ◌<◌, ◌≤◌, Bool, true, false, eqb, ltb, List, length, ◌++◌, get_or, take, drop, sym, refl, ap, ◌∙◌, zero-le, zero-mul, add-zero, arith, ltb-false, ltb-true}
use lib.Seq.{take-length, length-take-le}
use Rattle.std.proofs.lemmas.List.{take-append-drop, get_or-take, get_or-drop, drop-drop}
use Rattle.std.specs.Simd.{first_chunks}
use Rattle.text.specs.Walk.{State, start, wanted_after, accepting, utf8}
use Rattle.text.specs.Private.{code, Reaches, Ascii}
use Rattle.text.proofs.Codes.{run_snoc, code_injective, code_accepting}
use Rattle.text.proofs.Exact.{ascii_step, wanted_append}

-- Two parts that meet or overlap
pub ascii_join : (s : List ℕ) (a m b e : ℕ) → b ≤ m → Ascii s a m → Ascii s b e → Ascii s a e
ascii_join s a m b e h f g k l u = go (ltb k m) refl
  where
    go : (t : Bool) → ltb k m ≡ t → get_or s k 0 < 128
    go true t = f k l (ltb-true k m t)
    go false t = g k (omega (arith, ltb-false k m t)) u

-- One byte more
pub ascii_more : (s : List ℕ) (a i : ℕ) → Ascii s a i → get_or s i 0 < 128 → Ascii s a (i + 1)
ascii_more s a i f h = ascii_join s a i i (i + 1) (omega arith) f (λ k l u. let e : k ≡ i = omega arith in rw e h)

-- Where nothing is wanted before ASCII, nothing is wanted after it
ascii_steps : (s : List ℕ) (p : State) (a d : ℕ) → a + d ≤ length s → Ascii s a (a + d) → wanted_after p (take a s) ≡ start → wanted_after p (take (a + d) s) ≡ start
ascii_steps s p a zero h f q = rw add-zero q
ascii_steps s p a (suc d) h f q =
    let n : a + suc d ≡ a + d + 1 = omega arith in
    rw (n, run_snoc p s (a + d) (omega arith), ascii_steps s p a d (omega arith) (λ k l u. f k l (omega arith)) q)
    (ascii_step (get_or s (a + d) 0) (f (a + d) (omega arith) (omega arith)))

pub ascii_runs : (s : List ℕ) (p : State) (a e : ℕ) → a ≤ e → e ≤ length s → Ascii s a e → wanted_after p (take a s) ≡ start → wanted_after p (take e s) ≡ start
ascii_runs s p a e h l f q =
    let n : a + (e - a) ≡ e = omega arith in
    rw n at (ascii_steps s p a (e - a) (omega arith) (rw n f) q)

pub ascii_over : (s : List ℕ) → Ascii s 0 (length s) → wanted_after start s ≡ start
ascii_over s f = rw (take-length s) at (ascii_runs s start 0 (length s) zero-le (omega arith) f refl)

-- A walk passes over ASCII in the state 0
pub passed : (s : List ℕ) (x : ℕ) → x ≡ 0 → Ascii s 0 (length s) → Reaches s x x
passed s x z f p q =
    let e : p ≡ start = code_injective p start (sym q ∙ z) in
    z ∙ sym (ap (λ (o : State). code (wanted_after o s)) e ∙ ap code (ascii_over s f))

-- A walk over two parts
pub onward : (l m : List ℕ) {q x r : ℕ} → Reaches l q x → Reaches m x r → Reaches (l ++ m) q r
onward l m f g p e = g (wanted_after p l) (f p e) ∙ ap code (sym (wanted_append p l m))

-- A state in which nothing is wanted ascii_stays the same over ASCII
pub ascii_stays : (s : List ℕ) (p q : State) (a e : ℕ) → a ≤ e → e ≤ length s → Ascii s a e → code q ≡ 0 → q ≡ wanted_after p (take a s) → q ≡ wanted_after p (take e s)
ascii_stays s p q a e h l f z w =
    let n : q ≡ start = code_injective q start z in
    n ∙ sym (ascii_runs s p a e h l f (sym w ∙ n))

-- A text of ASCII is UTF-8
pub ascii_utf8 : (s : List ℕ) → Ascii s 0 (length s) → true ≡ utf8 s
ascii_utf8 s f = sym (ap accepting (ascii_over s f))

-- The answer, from a walk over the whole text, and from one over what follows ASCII
pub finished : (s : List ℕ) (r : ℕ) → Reaches s 0 r → eqb r 0 ≡ utf8 s
finished s r w = rw (w start refl) (code_accepting (wanted_after start s))

pub answered : (s : List ℕ) (i r : ℕ) → i ≤ length s → Ascii s 0 i → Reaches (drop i s) 0 r → eqb r 0 ≡ utf8 s
answered s i r h f w =
    let begun : wanted_after start (take i s) ≡ start = ascii_runs s start 0 i zero-le h f refl in
    let whole : wanted_after start s ≡ wanted_after start (drop i s) =
    ap (λ (l : List ℕ). wanted_after start l) (sym (take-append-drop i s)) ∙ wanted_append start (take i s) (drop i s) ∙ ap (λ (q : State). wanted_after q (drop i s)) begun in
    finished (drop i s) r w ∙ ap accepting (sym whole)

-- The bytes of a part
pub ascii_part : (s : List ℕ) (a n : ℕ) → Ascii (take n (drop a s)) 0 (length (take n (drop a s))) → a + n ≤ length s → Ascii s a (a + n)
ascii_part s a n f h k l u =
    let at : a + (k - a) ≡ k = omega arith in
    let same : get_or (take n (drop a s)) (k - a) 0 ≡ get_or s k 0 = rw at at (get_or-take n (drop a s) (k - a) 0 (omega arith) ∙ get_or-drop a s (k - a) 0) in
    rw (← same) (f (k - a) zero-le (omega (arith, length-take-le n (drop a s) (omega (arith, length-drop a s)))))

-- A part of a text that is cut into parts of n bytes
pub chunk_at : (n c : ℕ) (s : List ℕ) (k : ℕ) (d : List ℕ) → k < c → get_or (first_chunks n c s) k d ≡ take n (drop (k * n) s)
chunk_at n zero s k d h = absurd (omega arith)
chunk_at n (suc c) s zero d h = rw zero-mul refl
chunk_at n (suc c) s (suc k) d h =
    let e : n + k * n ≡ suc k * n = omega arith in
    chunk_at n c (drop n s) k d (omega arith) ∙ rw (← e) (ap (take n) (drop-drop (k * n) n s))
