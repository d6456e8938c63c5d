-- The jobs of a round: what a connection asks, and the reply that its slot gets.
use Rattle.std.specs.Prelude.{true, ◌≡◌, ◌⊎◌, ◌<◌, ◌+◌, ◌∷◌, ℕ, IsTrue, List, [], length, map, slice_get, Some, None, Ok, Err, MatchOption, IfSome, ⊤}
use Rattle.std.specs.Option.{option_map}
use Rattle.std.specs.declared.option.Option.{Option}
use Rattle.std.specs.declared.result.Result.{Result}
use Rattle.op_api.specs.declared.request.ApiFault.{ApiFault}
use Rattle.op_api.specs.declared.request.ApiFault.TheVariants as api
use Rattle.op_desk.specs.Batches.{BatchValue, history_in}
use Rattle.op_desk.specs.Built.{is_built_refusal, is_built_request}
use Rattle.op_model.specs.Legal.{keeps_forms}
use Rattle.op_http.specs.Held.{Held}
use Rattle.op_http.specs.Reader.{Reads}
use Rattle.op_http.specs.declared.reader.HttpFault.{HttpFault}
use Rattle.op_http.specs.declared.reader.HttpFault.TheVariants as http
use Rattle.op_model.specs.Requests.{Raw}
use Rattle.op_model.specs.Round.{FeesAllowed, Handled, IsHandledNext, IsRound, refusal_reply}
use Rattle.op_model.specs.Verdicts.{Accepts, verdict_of}
use Rattle.op_model.specs.declared.act.Entry.{Entry}
use Rattle.op_model.specs.declared.reply.Reply.{Reply}
use Rattle.op_model.specs.declared.reply.Refusal.{Refusal}
use Rattle.op_model.specs.declared.reply.Refusal.TheVariants.{BadHttp, LengthRequired, RequestTooLarge, Memory}
use Rattle.op_model.specs.declared.request.Request.{Request}
use Rattle.op_model.specs.declared.request.Task.{Task}
use Rattle.op_model.specs.declared.request.Task.TheVariants.{Ask}
use Rattle.op_session.specs.Built.{meant_so_far}
use Rattle.op_round.specs.Books.{Asked, Asking, IsFit, IsTellable, somes}
use Rattle.op_round.specs.declared.job.Job.{Job}
use Rattle.op_round.specs.declared.prepared.Prepared.{Prepared}
use Rattle.op_round.specs.declared.prepared.Prepared.TheVariants.{Silent, Refused, Asks}

-- ---- what a connection asks

-- what a request that was read asks, or its refusal
abbrev pub IsAskedBy : Accepts → Raw → Prepared → Type 0
IsAskedBy accepts raw (Asks task) = (request : Request) × (meant_so_far raw ≡ Ok request) × (task ≡ Ask request (verdict_of accepts raw))
IsAskedBy accepts raw (Refused refusal) = (refusal ≡ Memory) ⊎ (meant_so_far raw ≡ Err refusal)
IsAskedBy accepts raw Silent = ⊥

-- what follows from what a call for a request answered
abbrev pub Follows : Accepts → Result (Option Raw) HttpFault → Prepared → Type 0
Follows accepts (Ok (Some raw)) prepared = IsAskedBy accepts raw prepared
Follows accepts (Ok None) prepared = prepared ≡ Silent
Follows accepts (Err http.ReadFault) prepared = prepared ≡ Silent
Follows accepts (Err http.Memory) prepared = prepared ≡ Refused Memory
Follows accepts (Err (http.BadHttp at)) prepared = prepared ≡ Refused (BadHttp at)
Follows accepts (Err (http.LengthRequired at)) prepared = prepared ≡ Refused (LengthRequired at)
Follows accepts (Err (http.TooLarge at)) prepared = prepared ≡ Refused (RequestTooLarge at)

abbrev pub nothing_held : Held
nothing_held = record { bytes = []; at = 0 }

-- one request was taken from a connection that had this left, and that is what it asks
abbrev pub IsPrepared : Accepts → (left left' : Option (List ℕ)) → Prepared → Type 0
IsPrepared accepts left left' prepared = (held : Held) × (result : Result (Option Raw) HttpFault) × Reads nothing_held held left left' result × Follows accepts result prepared

-- what was prepared can be acted for, on any history, or has a refusal that can be printed
abbrev pub IsReady : Prepared → Type 0
IsReady (Asks task) = (start : List Entry) → IsFit start task
IsReady (Refused refusal) = IsTrue (is_built_refusal refusal)
IsReady Silent = ⊤

-- ---- what a job has then

abbrev pub task_of : Prepared → Option Task
task_of (Asks task) = Some task
task_of _ = None

abbrev pub reply_of : List Entry → Prepared → Option Reply
reply_of start (Refused refusal) = Some (refusal_reply start refusal)
reply_of start _ = None

-- its connection was read, and what it asks is its task, or has its reply
pub record JobRead {C : Type 0} (accepts : Accepts) (left : C → Option (List ℕ)) (start : List Entry) (conn : C) (old new : Job C) : Type 0 where
  pub conn' : C
  pub is_conn : new.conn ≡ Some conn'
  pub prepared : Prepared
  pub is_prepared : IsPrepared accepts (left conn) (left conn') prepared
  pub ready : IsReady prepared
  pub word : new.word ≡ old.word
  pub task : new.task ≡ task_of prepared
  pub reply : new.reply ≡ reply_of start prepared

-- a job that has a connection was read; one that has its task is as it was
abbrev pub IsReadJob : {C : Type 0} → Accepts → (C → Option (List ℕ)) → List Entry → (old new : Job C) → Type 0
IsReadJob accepts left start old new = MatchOption old.conn (new ≡ old) (λ conn. JobRead accepts left start conn old new)

-- a job before its round: no reply is in its slot; it has a connection, or a task that can be acted for
pub record IsFreshJob {C : Type 0} (start : List Entry) (job : Job C) : Type 0 where
  pub reply : job.reply ≡ None
  pub task : MatchOption job.conn (IfSome job.task (IsFit start)) (λ _. job.task ≡ None)

-- ---- the round of the jobs

abbrev pub asked_of : {C : Type 0} → Job C → Option Asked
asked_of job = option_map (λ task. record { word = job.word; task = task }) job.task

abbrev pub asking : {C : Type 0} → List (Job C) → Asking
asking jobs = map asked_of jobs

abbrev pub IsFitJob : {C : Type 0} → List Entry → Job C → Type 0
IsFitJob start job = IfSome job.task (IsFit start)

-- a request is built, and its members keep their forms
pub record IsFitRequest (request : Request) : Type 0 where
  pub built : is_built_request request ≡ true
  pub forms : keeps_forms request ≡ true

-- the refusal of a request that is not understood has a form that is built
abbrev pub IsBuiltFault : ApiFault → Type 0
IsBuiltFault (api.Refused refusal) = IsTrue (is_built_refusal refusal)
IsBuiltFault api.Memory = ⊤

-- ---- a whole round of jobs

-- what a job's slot has at the end: its reply in the round, or what was there before the round where it has no task
abbrev pub IsSlot : {C : Type 0} → (ready done : Job C) → Option Handled → Type 0
IsSlot ready done None = (ready.task ≡ None) × (done ≡ ready)
IsSlot ready done (Some one) = (ready.task ≡ Some one.task) × (ready.word ≡ one.word) × (done ≡ record ready { reply = Some one.reply })

-- Jobs were acted for: those that have a task are a round, whatever order their workers took the lock in, and each has its reply there.
pub record IsActedFor {C : Type 0} (allows : FeesAllowed) (start : List Entry) (t : ℕ) (ready done : List (Job C)) (batch : BatchValue) : Type 0 where
  pub begun : batch.begun ≡ start
  pub moment : batch.moment ≡ t
  pub slots : List (Option Handled)
  pub size : length slots ≡ length ready
  pub same : length done ≡ length ready
  pub each : (i : ℕ) (a b : Job C) (slot : Option Handled) → slice_get ready i ≡ Some a → slice_get done i ≡ Some b → slice_get slots i ≡ Some slot → IsSlot a b slot
  pub tellable : (i : ℕ) (one : Handled) → slice_get slots i ≡ Some (Some one) → IsTellable one.reply
  -- the places are those that the commit tells
  pub places : (i : ℕ) (one : Handled) → slice_get slots i ≡ Some (Some one) → slice_get batch.places i ≡ Some one.place
  pub round : IsRound allows start t (somes slots) batch.entries

-- each job's connection was read
abbrev pub AreRead : {C : Type 0} → Accepts → (C → Option (List ℕ)) → List Entry → (old new : List (Job C)) → Type 0
AreRead {C} accepts left start old new = (length new ≡ length old) × ((i : ℕ) (a b : Job C) → slice_get old i ≡ Some a → slice_get new i ≡ Some b → IsReadJob accepts left start a b)

-- A round of jobs: the connections are read, and then all that have a task are acted for.
abbrev pub IsRoundOfJobs : {C : Type 0} → FeesAllowed → Accepts → (C → Option (List ℕ)) → List Entry → ℕ → (old new : List (Job C)) → BatchValue → Type 0
IsRoundOfJobs {C} allows accepts left start t old new batch = (ready : List (Job C)) × AreRead accepts left start old ready × IsActedFor allows start t ready new batch

abbrev pub AreFresh : {C : Type 0} → List Entry → List (Job C) → Type 0
AreFresh {C} start jobs = (i : ℕ) (job : Job C) → slice_get jobs i ≡ Some job → IsFreshJob start job

-- a job's slot gets the reply, if there is one
abbrev pub Gives : {C : Type 0} → (old new : Job C) → Option Reply → Type 0
Gives old new None = new ≡ old
Gives old new (Some reply) = new ≡ record old { reply = Some reply }

abbrev pub AreGiven : {C : Type 0} → (old new : List (Job C)) → List (Option Reply) → Type 0
AreGiven {C} old new replies = (length new ≡ length old)
    × ((i : ℕ) (a b : Job C) (reply : Option Reply) → slice_get old i ≡ Some a → slice_get new i ≡ Some b → slice_get replies i ≡ Some reply → Gives a b reply)

-- ---- the plain form

-- what one job in turn does to the history: nothing where it has no task
abbrev pub HandlesNext : FeesAllowed → List Entry → (old : List Entry) → ℕ → Option Handled → (new : List Entry) → Type 0
HandlesNext allows start old t None new = new ≡ old
HandlesNext allows start old t (Some one) new = IsHandledNext allows old t one new × (length start + one.place ≡ length old)

-- one job in turn: its connection is read, and then it acts on what the jobs before it left
pub record PlainJob {C : Type 0} (allows : FeesAllowed) (accepts : Accepts) (left : C → Option (List ℕ)) (start : List Entry) (t : ℕ) (old : List Entry) (job done : Job C) (new : List Entry) : Type 0 where
  pub ready : Job C
  pub read : IsReadJob accepts left start job ready
  pub slot : Option Handled
  pub told : IsSlot ready done slot
  pub acted : HandlesNext allows start old t slot new

-- jobs one after another
abbrev pub PlainJobs : {C : Type 0} → FeesAllowed → Accepts → (C → Option (List ℕ)) → List Entry → ℕ → List Entry → (jobs done : List (Job C)) → List Entry → Type 0
PlainJobs allows accepts left start t old [] [] new = new ≡ old
PlainJobs allows accepts left start t old (job ∷ jobs) (one ∷ done) new = (mid : List Entry) × PlainJob allows accepts left start t old job one mid × PlainJobs allows accepts left start t mid jobs done new
PlainJobs allows accepts left start t old _ _ new = ⊥

-- a batch acts for a job, if it has a task
pub record ActsFor {C : Type 0} (allows : FeesAllowed) (old new : BatchValue) (index : ℕ) (ready done : Job C) : Type 0 where
  pub slot : Option Handled
  pub told : IsSlot ready done slot
  pub acted : HandlesNext allows old.begun (history_in old) old.moment slot (history_in new)
  pub begun : (new.begun ≡ old.begun) × (new.moment ≡ old.moment)
  pub others : (i : ℕ) → index < i → slice_get new.used i ≡ slice_get old.used i
