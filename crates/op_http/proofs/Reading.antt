-- What a call reads of the stream, told by what is held before and behind it.
use Rattle.std.proofs.Common.{◌≡◌, ◌≤◌, ◌<◌, ◌+◌, ◌-◌, ℕ, List, [], ◌++◌, Some, None, Ok, Err, Result, IfSome, IfOk, MatchResult, length, take, drop, refl, sym, ap, subst, ◌∙◌, arith}
use Rattle.std.proofs.lemmas.List.{take-take, take-append-le, take-append-drop, append-nil, length-take, length-take-le, length-drop, drop-take}
use Rattle.std.specs.declared.option.Option.{Option}
use Rattle.std.specs.Io.KnownBytes.{Consumes, IsAtEnd, prepend_known}
use Rattle.op_model.specs.Requests.{Raw, head_limit, ends_with_mark, IsBadHttp, IsTooLarge, IsLengthRequired, BeginsWithNoRequest}
use Rattle.op_http.specs.Head.{HeadParts, Frames, FramesNot}
use Rattle.op_http.specs.Held.{Held}
use Rattle.op_http.specs.Marks.{IsFirstMark}
use Rattle.op_http.specs.Reader.{stream, Fills, Stays, Takes, RefusesAt, Refuses, IsFramed, CutsOff, refusal_at, fault_of}
use Rattle.op_http.specs.declared.frame.Frame.{Frame}
use Rattle.op_http.specs.declared.frame.FrameFault.{FrameFault}
use Rattle.op_http.specs.declared.frame.FrameFault.TheVariants as frame_faults
use Rattle.op_http.specs.declared.reader.FillFault.{FillFault}
use Rattle.op_http.specs.declared.reader.FillFault.TheVariants as fill_faults
use Rattle.op_http.specs.declared.reader.HttpFault.{HttpFault}
use Rattle.op_http.specs.declared.reader.HttpFault.TheVariants.{BadHttp, LengthRequired, TooLarge, ReadFault, Memory}
use Rattle.op_http.proofs.Requests.{mark_stays, no_head_refused, chunked_refused, bad_length_refused, long_body_refused, cut_short_refused, no_request_short, whole_request, head_is_window}
use Rattle.op_http.proofs.Stream.{consumes_trans, consumes_filled, consumes_cut}

-- ---- nothing is taken

pub stays_here : (held : Held) (left : Option (List ℕ)) → Stays held held left left
stays_here held None = (tt, refl)
stays_here held (Some xs) = (refl, refl)

pub stays_filled : (old new : Held) (left left' : Option (List ℕ)) → Fills old new left left' → Stays old new left left'
stays_filled old new left left' fills = (
  subst (λ (bytes : List ℕ). Consumes (prepend_known old.bytes left) (prepend_known bytes left') []) (sym fills.bytes)
      (consumes_filled old.bytes fills.piece left left' fills.taken),
  fills.at,
)

stays_twice : (old mid new : Held) (left left' left'' : Option (List ℕ)) → Stays old mid left left' → Stays mid new left' left'' → Stays old new left left''
stays_twice old mid new left left' left'' p q =
    (consumes_trans (stream old left) (stream mid left') (stream new left'') [] [] p.0 q.0, q.1 ∙ p.1)

told_again : (P : List ℕ → Type 0) (a b : Option (List ℕ)) → Consumes a b [] → IfSome b P → IfSome a P
told_again P None b same told = tt
told_again P (Some xs) None same told = absurd same
told_again P (Some xs) (Some ys) same told = subst P (sym same) told

-- ---- what holds of what is held, whatever follows, holds of the stream

told_here : (P : List ℕ → Type 0) (held : Held) (left : Option (List ℕ)) → ((more : List ℕ) → P (held.bytes ++ more)) → IfSome (stream held left) P
told_here P held None all = tt
told_here P held (Some xs) all = all xs

pub told_filled : (P : List ℕ → Type 0) (old new : Held) (left left' : Option (List ℕ)) → Fills old new left left'
    → ((more : List ℕ) → P (new.bytes ++ more)) → IfSome (stream old left) P
told_filled P old new left left' fills all =
    told_again P (stream old left) (stream new left') (stays_filled old new left left' fills).0 (told_here P new left' all)

told_end : (P : List ℕ → Type 0) (held : Held) (left : Option (List ℕ)) → IsAtEnd left → P held.bytes → IfSome (stream held left) P
told_end P held None end fact = tt
told_end P held (Some xs) end fact = subst P (sym (ap (λ (x : List ℕ). held.bytes ++ x) end ∙ append-nil held.bytes)) fact

pub told_at_end : (P : List ℕ → Type 0) (old new : Held) (left left' : Option (List ℕ)) → Fills old new left left'
    → IsAtEnd left' → P new.bytes → IfSome (stream old left) P
told_at_end P old new left left' fills end fact =
    told_again P (stream old left) (stream new left') (stays_filled old new left left' fills).0 (told_end P new left' end fact)

pub refuses_filled : (P : List ℕ → Type 0) (old new : Held) (left left' : Option (List ℕ)) → Fills old new left left'
    → ((more : List ℕ) → P (new.bytes ++ more)) → RefusesAt old new left left' new.at P
refuses_filled P old new left left' fills all = (stays_filled old new left left' fills, fills.at, told_filled P old new left left' fills all)

pub refuses_at_end : (P : List ℕ → Type 0) (old new : Held) (left left' : Option (List ℕ)) → Fills old new left left'
    → IsAtEnd left' → P new.bytes → RefusesAt old new left left' new.at P
refuses_at_end P old new left left' fills end fact = (stays_filled old new left left' fills, fills.at, told_at_end P old new left left' fills end fact)

-- ---- a call after a call that filled

refuses_after : (old mid new : Held) (left left' left'' : Option (List ℕ)) (fault : HttpFault) → Stays old mid left left' → Refuses mid new left' left'' fault → Refuses old new left left'' fault
refuses_after old mid new left left' left'' (BadHttp at) same refused =
    (stays_twice old mid new left left' left'' same refused.0, refused.1 ∙ same.1, told_again IsBadHttp (stream old left) (stream mid left') same.0 refused.2)
refuses_after old mid new left left' left'' (LengthRequired at) same refused =
    (stays_twice old mid new left left' left'' same refused.0, refused.1 ∙ same.1, told_again IsLengthRequired (stream old left) (stream mid left') same.0 refused.2)
refuses_after old mid new left left' left'' (TooLarge at) same refused =
    (stays_twice old mid new left left' left'' same refused.0, refused.1 ∙ same.1, told_again IsTooLarge (stream old left) (stream mid left') same.0 refused.2)
refuses_after old mid new left left' left'' ReadFault same refused = (stays_twice old mid new left left' left'' same refused.0, refused.1)
refuses_after old mid new left left' left'' Memory same refused = stays_twice old mid new left left' left'' same refused

takes_after : (old mid new : Held) (left left' left'' : Option (List ℕ)) (raw : Raw) → Stays old mid left left' → Takes mid new left' left'' raw → Takes old new left left'' raw
takes_after old mid new left left' left'' raw same takes =
    record {
      text = takes.text;
      request = takes.request;
      taken = consumes_trans (stream old left) (stream mid left') (stream new left'') [] takes.text same.0 takes.taken;
      at = takes.at ∙ ap (λ (k : ℕ). k + length takes.text) same.1;
      limit = takes.limit;
    }

pub fault_after : (old mid new : Held) (left left' left'' : Option (List ℕ)) (fault : HttpFault) → Fills old mid left left' → Refuses mid new left' left'' fault → Refuses old new left left'' fault
fault_after old mid new left left' left'' fault fills refused = refuses_after old mid new left left' left'' fault (stays_filled old mid left left' fills) refused

pub request_after : (old mid new : Held) (left left' left'' : Option (List ℕ)) (raw : Raw) → Fills old mid left left' → Takes mid new left' left'' raw → Takes old new left left'' raw
request_after old mid new left left' left'' raw fills takes = takes_after old mid new left left' left'' raw (stays_filled old mid left left' fills) takes

-- no more of the stream is held
pub not_filled : (old new : Held) (left left' : Option (List ℕ)) (fault : FillFault) → Stays old new left left' → BeginsWithNoRequest new.bytes
    → Refuses old new left left' (fault_of fault)
not_filled old new left left' fill_faults.Read same none = (same, none)
not_filled old new left left' fill_faults.Full same none = same

-- ---- the window

refused_here : (P : List ℕ → Type 0) (held : Held) (left : Option (List ℕ)) → ((more : List ℕ) → P (held.bytes ++ more)) → RefusesAt held held left left held.at P
refused_here P held left all = (stays_here held left, refl, told_here P held left all)

-- a window that tells no body
pub window_refused : (held : Held) (left : Option (List ℕ)) (n : ℕ) (fault : FrameFault) → IsFirstMark held.bytes n → n ≤ head_limit
    → FramesNot (take n held.bytes) fault → Refuses held held left left (refusal_at held.at fault)
window_refused held left n frame_faults.NoHead is short none = refused_here IsBadHttp held left (λ more. no_head_refused held.bytes more n is short none)
window_refused held left n frame_faults.Chunked is short none = refused_here IsLengthRequired held left (λ more. chunked_refused held.bytes more n is short none)
window_refused held left n frame_faults.BadLength is short none = refused_here IsBadHttp held left (λ more. bad_length_refused held.bytes more n is short none)
window_refused held left n frame_faults.LongBody is short none = refused_here IsTooLarge held left (λ more. long_body_refused held.bytes more n is short none)
window_refused held left n frame_faults.NoMemory is short none = stays_here held left

-- a window that tells one
pub is_framed : (bytes : List ℕ) (n : ℕ) (p : HeadParts) (size : ℕ) → IsFirstMark bytes n → n ≤ head_limit → Frames (take n bytes) p size → IsFramed bytes p size
is_framed bytes n p size is short frames =
    let same : n ≡ p.len = sym (head_is_window bytes n p is frames.holds).0 in
    record {
      mark = subst (λ (k : ℕ). IsFirstMark bytes k) same is;
      limit = rw (← same) short;
      frames = subst (λ (k : ℕ). Frames (take k bytes) p size) same frames;
    }

framed_more : (bytes more : List ℕ) (p : HeadParts) (size : ℕ) → IsFramed bytes p size → IsFramed (bytes ++ more) p size
framed_more bytes more p size framed =
    record {
      mark = mark_stays bytes more p.len framed.mark;
      limit = framed.limit;
      frames = subst (λ (w : List ℕ). Frames w p size) (sym (take-append-le p.len bytes more framed.mark.within)) framed.frames;
    }

pub framed_filled : (old new : Held) (left left' : Option (List ℕ)) (p : HeadParts) (size : ℕ) → Fills old new left left' → IsFramed old.bytes p size → IsFramed new.bytes p size
framed_filled old new left left' p size fills framed =
    subst (λ (bytes : List ℕ). IsFramed bytes p size) (sym fills.bytes) (framed_more old.bytes fills.piece p size framed)

-- ---- the body

-- the stream ends within it
pub body_cut_short : (old new : Held) (left left' : Option (List ℕ)) (p : HeadParts) (size : ℕ) → Fills old new left left' → IsFramed old.bytes p size
    → length new.bytes < p.len + size → IsAtEnd left' → RefusesAt old new left left' new.at IsBadHttp
body_cut_short old new left left' p size fills framed few end =
    let now = framed_filled old new left left' p size fills framed in
    let whole : new.bytes ++ [] ≡ new.bytes = append-nil new.bytes in
    let few' : length (new.bytes ++ []) < p.len + size = rw whole few in
    refuses_at_end IsBadHttp old new left left' fills end
    (subst IsBadHttp whole (cut_short_refused new.bytes [] p.len p size now.mark now.limit now.frames few'))

-- it is not there yet
pub body_missing : (old new : Held) (left left' : Option (List ℕ)) (p : HeadParts) (size : ℕ) → Fills old new left left' → IsFramed old.bytes p size
    → length new.bytes < p.len + size → Stays old new left left' × BeginsWithNoRequest new.bytes
body_missing old new left left' p size fills framed few =
    let now = framed_filled old new left left' p size fills framed in
    (stays_filled old new left left' fills, no_request_short new.bytes p.len p size now.mark now.limit now.frames few)

mark_in_front : (bytes : List ℕ) (m n : ℕ) → IsFirstMark bytes n → n ≤ m → IsFirstMark (take m bytes) n
mark_in_front bytes m n is short =
    record {
      ends = ap ends_with_mark (take-take n m bytes short) ∙ is.ends;
      first = λ k below. ap ends_with_mark (take-take k m bytes (omega arith)) ∙ is.first k below;
      within = omega (arith, is.within, length-take m bytes);
    }

-- it is taken
pub body_taken : (old mid new : Held) (left left' : Option (List ℕ)) (p : HeadParts) (size : ℕ) (raw : Raw) → Fills old mid left left' → IsFramed old.bytes p size
    → p.len + size ≤ length mid.bytes → CutsOff mid new p (p.len + size) raw → Takes old new left left' raw
body_taken old mid new left left' p size raw fills framed enough cut =
    let now = framed_filled old mid left left' p size fills framed in
    let text = take (p.len + size) mid.bytes in
    let mark = mark_in_front mid.bytes (p.len + size) p.len now.mark (omega arith) in
    let frames = subst (λ (w : List ℕ). Frames w p size) (sym (take-take p.len (p.len + size) mid.bytes (omega arith))) now.frames in
    let count : p.len + size - p.len ≡ size = omega arith in
    let body : raw.body ≡ take size (drop p.len mid.bytes) = cut.body ∙ ap (λ (k : ℕ). take k (drop p.len mid.bytes)) count in
    let long : length raw.body ≡ size = ap length body ∙ omega (arith, enough, length-take size (drop p.len mid.bytes), length-drop p.len mid.bytes) in
    let split : mid.bytes ≡ text ++ new.bytes = sym (take-append-drop (p.len + size) mid.bytes) ∙ ap (λ (x : List ℕ). text ++ x) (sym cut.left) in
    record {
      text = text;
      request = whole_request text p.len p size raw mark now.limit frames cut.method cut.target cut.fields (body ∙ sym (drop-take p.len size mid.bytes)) long;
      taken = consumes_trans (stream old left) (stream mid left') (stream new left') [] text (stays_filled old mid left left' fills).0 (consumes_cut mid.bytes text new.bytes left' split);
      at = cut.at ∙ omega (arith, fills.at, length-take-le (p.len + size) mid.bytes enough);
      limit = omega (arith, now.limit, frames.limit, length-take-le (p.len + size) mid.bytes enough);
    }

-- the answer for the window
pub is_framed_if : (bytes kept : List ℕ) (n : ℕ) (result : Result Frame FrameFault) → IsFirstMark bytes n → n ≤ head_limit → kept ≡ bytes
    → MatchResult result (λ frame. Frames (take n kept) frame.head frame.size) (FramesNot (take n kept)) → IfOk result (λ frame. IsFramed bytes frame.head frame.size)
is_framed_if bytes kept n (Ok frame) is short same fact =
    is_framed bytes n frame.head frame.size is short (subst (λ (b : List ℕ). Frames (take n b) frame.head frame.size) same fact)
is_framed_if bytes kept n (Err fault) is short same fact = tt
