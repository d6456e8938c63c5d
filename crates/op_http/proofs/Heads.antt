-- A window begins with at most one head, which is all of it.
use Rattle.std.proofs.Common.{◌≡◌, ◌-◌, ℕ, Bool, true, false, ◌&&◌, ◌||◌, not, nat_eq, List, [], ◌∷◌, ◌++◌, codes, length, drop, refl, sym, ap, ◌∙◌, arith, append_assoc, length-append}
use Rattle.std.specs.List.{flat_map, ends_with, list_any}
use Rattle.std.proofs.lemmas.List.{drop_at, append-nil}
use Rattle.std.proofs.lemmas.List.Folds.{list_any-append}
use Rattle.httparse.specs.Grammar.{RequestHead, LineEnd, crlf, lf, print_end, print_blank, print_version, Field, print_field, print_request}
use Rattle.httparse.proofs.GrammarLemmas.{request_unique, print_request-append, cons-append}
use Rattle.op_model.specs.Requests.{is_line_byte, ends_with_mark, BeginsWithHead}

pub head_unique : (window : List ℕ) (h k : RequestHead) (r q : List ℕ)
    → BeginsWithHead window h r → BeginsWithHead window k q → (h ≡ k) × (r ≡ q)
head_unique window h k r q x y = request_unique window h k r q x.reads y.reads

-- what stands before a section's empty line ends in a line feed
ends_in_feed : (e : LineEnd) (fs : List Field)
    → (q : List ℕ) × (print_end e ++ flat_map print_field fs ≡ q ++ 10 ∷ [])
ends_in_feed crlf [] = (13 ∷ [], refl)
ends_in_feed lf [] = ([], refl)
ends_in_feed e (f ∷ fs) =
    let more = ends_in_feed f.end fs in
    let front = print_end e ++ (f.name ++ 58 ∷ f.raw) in (
      front ++ more.0,
      regroup (print_end e) f.name f.raw (print_end f.end) (flat_map print_field fs)
          ∙ ap (λ t. front ++ t) more.1 ∙ sym (append_assoc front more.0 (10 ∷ [])),
    )
  where
    regroup : (a n r d s : List ℕ) → a ++ ((n ++ 58 ∷ r ++ d) ++ s) ≡ (a ++ (n ++ 58 ∷ r)) ++ (d ++ s)
    regroup a n r d s = simp (append_assoc, cons-append)

-- a head is a text with a byte of no line end, and an empty line behind a line
head_split : (h : RequestHead) → (before line : List ℕ) × (print_request h ≡ (before ++ 32 ∷ line) ++ 10 ∷ print_end h.last)
head_split h =
    let feed = ends_in_feed h.line_end h.fields in (
      print_blank h.blank ++ h.method,
      h.target ++ 32 ∷ (print_version h.minor ++ feed.0),
      sym (append-nil (print_request h)) ∙ print_request-append h []
          ∙ regroup (print_blank h.blank) h.method h.target (print_version h.minor) (print_end h.line_end)
          (flat_map print_field h.fields) (print_end h.last) feed.0 feed.1,
    )
  where
    regroup : (b m t v d s l q : List ℕ) → d ++ s ≡ q ++ 10 ∷ []
        → b ++ (m ++ 32 ∷ (t ++ 32 ∷ (v ++ (d ++ ((s ++ l) ++ [])))))
        ≡ ((b ++ m) ++ 32 ∷ (t ++ 32 ∷ (v ++ q))) ++ 10 ∷ l
    regroup b m t v d s l q is =
        let inner : d ++ ((s ++ l) ++ []) ≡ q ++ 10 ∷ l = cc (regroup_end d s l, ap (λ z. z ++ l) is, feed_out q l) in
        rw inner (simp (append_assoc, cons-append))
      where
        regroup_end : (d s l : List ℕ) → d ++ ((s ++ l) ++ []) ≡ (d ++ s) ++ l
        regroup_end d s l = ap (λ (x : List ℕ). d ++ x) (append-nil (s ++ l)) ∙ sym (append_assoc d s l)

        feed_out : (q t : List ℕ) → (q ++ 10 ∷ []) ++ t ≡ q ++ 10 ∷ t
        feed_out q t = simp (append_assoc, cons-append)

tail_at : (a s : List ℕ) → drop (length (a ++ s) - length s) (a ++ s) ≡ s
tail_at a s = drop_at a s (length (a ++ s) - length s) (omega (arith, length-append a s))

or_left : (a b c : Bool) → a ≡ true → c ≡ true → ((a || b) && c) ≡ true
or_left a b c p q = rw (p, q) refl

or_right : (a b c : Bool) → b ≡ true → c ≡ true → ((a || b) && c) ≡ true
or_right true b c p q = q
or_right false b c p q = rw (p, q) refl

or_true : (a : Bool) → (a || true) ≡ true
or_true true = refl
or_true false = refl

some_other : (before line tail : List ℕ) → list_any (λ b. not (is_line_byte b)) ((before ++ 32 ∷ line) ++ tail) ≡ true
some_other before line tail =
    let test : ℕ → Bool = λ b. not (is_line_byte b) in
    let front : list_any (λ b. not (is_line_byte b)) (before ++ 32 ∷ line) ≡ true = list_any-append (λ b. not (is_line_byte b)) before (32 ∷ line) ∙ or_true (list_any (λ b. not (is_line_byte b)) before) in
    list_any-append (λ b. not (is_line_byte b)) (before ++ 32 ∷ line) tail ∙ rw front refl

ends_crlf : (a : List ℕ) → ends_with nat_eq (a ++ 10 ∷ 13 ∷ 10 ∷ []) (codes "\n\r\n") ≡ true
ends_crlf a = rw (tail_at a (10 ∷ 13 ∷ 10 ∷ [])) refl

ends_lf : (a : List ℕ) → ends_with nat_eq (a ++ 10 ∷ 10 ∷ []) (codes "\n\n") ≡ true
ends_lf a = rw (tail_at a (10 ∷ 10 ∷ [])) refl

marked : (before line : List ℕ) (last : LineEnd) → ends_with_mark ((before ++ 32 ∷ line) ++ 10 ∷ print_end last) ≡ true
marked before line crlf = or_right _ _ _ (ends_crlf (before ++ 32 ∷ line)) (some_other before line (10 ∷ 13 ∷ 10 ∷ []))
marked before line lf = or_left _ _ _ (ends_lf (before ++ 32 ∷ line)) (some_other before line (10 ∷ 10 ∷ []))

-- a head ends with an end mark
pub head_ends : (h : RequestHead) → ends_with_mark (print_request h) ≡ true
head_ends h =
    let parts = head_split h in
    ap ends_with_mark parts.2 ∙ marked parts.0 parts.1 h.last
