-- The reader of requests: what a call reads.
use Rattle.std.specs.Prelude.{◌≡◌, ℕ, ◌+◌, ◌-◌, ◌<◌, ◌≤◌, List, [], ◌++◌, length, take, drop, IfSome, MatchResult, MatchOption}
use Rattle.std.specs.Io.KnownBytes.{Consumes, IsAtEnd, prepend_known}
use Rattle.std.specs.declared.option.Option.{Option}
use Rattle.std.specs.declared.result.Result.{Result}
use Rattle.op_model.specs.Requests.{head_limit, body_limit, Raw, IsWholeRequest, IsEnded, IsBadHttp, IsLengthRequired, IsTooLarge, BeginsWithNoRequest}
use Rattle.op_http.specs.Head.{HeadParts, Frames}
use Rattle.op_http.specs.Held.{Held}
use Rattle.op_http.specs.Marks.{HasNoMark, IsFirstMark}
use Rattle.op_http.specs.declared.frame.FrameFault.{FrameFault}
use Rattle.op_http.specs.declared.frame.FrameFault.TheVariants.{NoHead, Chunked, BadLength, LongBody, NoMemory}
use Rattle.op_http.specs.declared.reader.FillFault.{FillFault}
use Rattle.op_http.specs.declared.reader.FillFault.TheVariants.{Read, Full}
use Rattle.op_http.specs.declared.reader.HttpFault.{HttpFault}
use Rattle.op_http.specs.declared.reader.HttpFault.TheVariants.{BadHttp, LengthRequired, TooLarge, ReadFault, Memory}

-- what is to be read: what the reader holds, and then what the source has left, where it tells it
abbrev pub stream : Held → Option (List ℕ) → Option (List ℕ)
stream held left = prepend_known held.bytes left

-- more of the source is held
pub record Fills (old new : Held) (left left' : Option (List ℕ)) : Type 0 where
  pub piece : List ℕ
  pub bytes : new.bytes ≡ old.bytes ++ piece
  pub taken : Consumes left left' piece
  pub at : new.at ≡ old.at

-- what is held does not tell where the window ends
abbrev pub IsOpen : List ℕ → Type 0
IsOpen bytes = (length bytes < head_limit) × HasNoMark bytes

-- the request with this head, which ends behind so many bytes, is cut off from what is held
pub record CutsOff (old new : Held) (head : HeadParts) (end : ℕ) (raw : Raw) : Type 0 where
  pub method : raw.method ≡ head.method
  pub target : raw.target ≡ head.target
  pub fields : raw.fields ≡ head.fields
  pub body : raw.body ≡ take (end - head.len) (drop head.len old.bytes)
  pub left : new.bytes ≡ drop end old.bytes
  pub at : new.at ≡ old.at + end

-- the head at the front is held, and it tells a body of this size
pub record IsFramed (bytes : List ℕ) (head : HeadParts) (size : ℕ) : Type 0 where
  pub mark : IsFirstMark bytes head.len
  pub limit : head.len ≤ head_limit
  pub frames : Frames (take head.len bytes) head size

-- nothing is taken from the stream
abbrev pub Stays : (old new : Held) (left left' : Option (List ℕ)) → Type 0
Stays old new left left' = Consumes (stream old left) (stream new left') [] × (new.at ≡ old.at)

-- the stream begins with this request, which is taken from it
pub record Takes (old new : Held) (left left' : Option (List ℕ)) (raw : Raw) : Type 0 where
  pub text : List ℕ
  pub request : IsWholeRequest text raw
  pub taken : Consumes (stream old left) (stream new left') text
  pub at : new.at ≡ old.at + length text
  pub limit : length text ≤ head_limit + body_limit

-- the stream has ended, and what is held is all of it
abbrev pub HasEnded : (old new : Held) (left left' : Option (List ℕ)) → Type 0
HasEnded old new left left' = Stays old new left left' × IsEnded new.bytes × IsAtEnd left'

-- the stream is refused, where it stands
abbrev pub RefusesAt : (old new : Held) (left left' : Option (List ℕ)) → ℕ → (List ℕ → Type 0) → Type 0
RefusesAt old new left left' at P = Stays old new left left' × (at ≡ old.at) × IfSome (stream old left) P

-- why there is no request
abbrev pub Refuses : (old new : Held) (left left' : Option (List ℕ)) → HttpFault → Type 0
Refuses old new left left' (BadHttp at) = RefusesAt old new left left' at IsBadHttp
Refuses old new left left' (LengthRequired at) = RefusesAt old new left left' at IsLengthRequired
Refuses old new left left' (TooLarge at) = RefusesAt old new left left' at IsTooLarge
Refuses old new left left' ReadFault = Stays old new left left' × BeginsWithNoRequest new.bytes
Refuses old new left left' Memory = Stays old new left left'

-- the request of a head that is held, or why there is none
abbrev pub ReadsOne : (old new : Held) (left left' : Option (List ℕ)) → Result Raw HttpFault → Type 0
ReadsOne old new left left' result = MatchResult result (Takes old new left left') (Refuses old new left left')

-- what a call for the next request answers
abbrev pub Reads : (old new : Held) (left left' : Option (List ℕ)) → Result (Option Raw) HttpFault → Type 0
Reads old new left left' result = MatchResult result
    (λ found. MatchOption found (HasEnded old new left left') (Takes old new left left'))
    (Refuses old new left left')

-- the answer where no more of the stream is held
abbrev pub fault_of : FillFault → HttpFault
fault_of Read = ReadFault
fault_of Full = Memory

-- the answer where the window tells no body
abbrev pub refusal_at : ℕ → FrameFault → HttpFault
refusal_at at NoHead = BadHttp at
refusal_at at BadLength = BadHttp at
refusal_at at Chunked = LengthRequired at
refusal_at at LongBody = TooLarge at
refusal_at at NoMemory = Memory
