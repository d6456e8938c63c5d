-- Bytes in place, and zeros behind them.
use Rattle.std.proofs.Common.{◌≡◌, ℕ, ◌+◌, ◌-◌, ◌≤◌, List, ◌++◌, length, take, drop, replicate, sym, ap, ◌∙◌, arith, append_assoc, length-append, length-take}
use Rattle.std.proofs.lemmas.List.{drop-replicate, length-replicate}
use Rattle.std.proofs.Math.Seq.{take-append_seam, drop-append_seam, take-length}
use borrow.Rule.Slice.PartMut.{put_mid}

pub drop_front : (front rest : List ℕ) (k : ℕ) → k ≡ length front → drop k (front ++ rest) ≡ rest
drop_front front rest k h = rw h (drop-append_seam front rest)

pub take_front : (front rest : List ℕ) (k : ℕ) → k ≡ length front → take k (front ++ rest) ≡ front
take_front front rest k h = rw h (take-append_seam front rest)

pub take_all : (xs : List ℕ) (k : ℕ) → k ≡ length xs → take k xs ≡ xs
take_all xs k h = rw h (take-length xs)

-- what stands behind the bytes after a part has been written over the first zeros
zeros_left : (n len p : ℕ) (kept : List ℕ) → len ≡ length (take len kept) → kept ≡ take len kept ++ replicate (n - len) 0
    → drop (len + p - len) (drop len kept) ≡ replicate (n - (len + p)) 0
zeros_left n len p kept size zeros =
    let behind : drop len kept ≡ replicate (n - len) 0 = ap (drop len) zeros ∙ drop_front (take len kept) _ len size in
    ap (drop (len + p - len)) behind ∙ drop-replicate (len + p - len) (n - len) 0 ∙ ap (λ k. replicate k 0) (omega arith)

pub filled : (n len : ℕ) (kept part : List ℕ) → length kept ≡ n → len + length part ≤ n → kept ≡ take len kept ++ replicate (n - len) 0
    → put_mid len (len + length part - len) kept part ≡ (take len kept ++ part) ++ replicate (n - (len + length part)) 0
filled n len kept part size fits zeros =
    let front : len ≡ length (take len kept) = omega (arith, length-take len kept) in
    ap (λ rest. take len kept ++ (part ++ rest)) (zeros_left n len (length part) kept front zeros) ∙ sym (append_assoc (take len kept) part _)

pub length-filled : (n len : ℕ) (kept part : List ℕ) → length kept ≡ n → len + length part ≤ n → len + length part ≡ length (take len kept ++ part)
length-filled n len kept part size fits = omega (arith, length-take len kept, length-append (take len kept) part)

pub length-room : (n k : ℕ) (text : List ℕ) → k ≡ length text → k ≤ n → length (text ++ replicate (n - k) 0) ≡ n
length-room n k text h fits = omega (arith, length-append text (replicate (n - k) 0), length-replicate {A = ℕ} (n - k) 0)
