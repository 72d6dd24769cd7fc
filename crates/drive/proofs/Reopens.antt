-- A new drive over what a run left.
use Rattle.std.proofs.Common.{◌≡◌, Bool, [], ◌∷◌, length, sym, ap, ◌∙◌, subst}
use Rattle.device.specs.Codes.{code_number}
use Rattle.device.specs.Device.{Medium}
use Rattle.device.specs.declared.fault.Code.TheVariants.{Done}
use Rattle.device.specs.declared.reading.ReadingDevice.{Ghosts as Reading}
use Rattle.freespace.specs.declared.allocator.SectorAllocator.{Ghosts as Allocating}
use Rattle.rules.specs.Model.{Model, Outcome, Initialize, find, new_model, response}
use Rattle.rules.specs.Runs.{Call, LeftClosed, Reopens, Run, SameFiles, none, more, supplied_by}
use Rattle.rules.specs.Served.{outcome}
use Rattle.rules.proofs.Leaving.{leaves_reopenable}
use Rattle.drive.specs.declared.answer.Answer.{Answer}
use Rattle.drive.specs.declared.drive.Drive.{Drive}
use Rattle.drive.specs.Exchanges.{Fresh, Reopened}
use Rattle.drive.specs.Serves.{Serving, ServesAlone, model_of, view, told_by}

-- INITIALIZE of a new drive over this medium
abbrev initialized : Medium → Outcome
initialized m = response (model_of m) (supplied_by m.sectors) Initialize []

-- what a run promises of its sectors holds of the same sectors on any medium with a closed door
pub record ComesBack (m : Medium) (b : Model) : Type 0 where
  pub code : (initialized m).code ≡ code_number Done
  pub files : SameFiles (initialized m).after.files b.files

comes_back : (m : Medium) (b : Model) → LeftClosed m b → ComesBack m b
comes_back m b left =
    let reopens : Reopens m.sectors b.files = subst (λ ss. Reopens ss b.files) (sym left.sectors) (leaves_reopenable left.began left.free left.calls left.answers b left.view left.ran left.initialized left.closed) in
    let shut : Bool → Outcome = λ d. response (new_model (length m.sectors) d m.tab) (supplied_by m.sectors) Initialize [] in
    record {
      code = ap (λ d. (shut d).code) left.door ∙ reopens.accepted m.tab;
      files = record {
        looked_up = λ n. ap (λ d. find n (shut d).after.files) left.door ∙ reopens.same_files m.tab n;
        as_many = ap (λ d. length (shut d).after.files) left.door ∙ reopens.as_many m.tab;
      };
    }

pub reopened : {D S : Type 0} (r : Reading D) (a : Allocating S) (device : D) (allocator : S) (d e : Drive D S) (x : Answer) → Fresh r a device allocator d → ServesAlone r a Initialize d x [] e → Reopened r a device allocator x e
reopened r a device allocator d e x fresh serves =
    let m = r.medium device in
    let call : Call = record { request = Initialize; buffer = [] } in
    let done : Serving r a (model_of m) call d (told_by x [] []) e = serves [] (model_of m) fresh.represents in
    let o : Outcome = outcome (model_of m) (view r a d) call in
    let same : o ≡ initialized m = ap (λ v. outcome (model_of m) v call) fresh.seen in
    record {
      ran = (o.after, (o ∷ [], ap (λ t. t ∷ []) done.answered, subst (λ v. Run (model_of m) v (call ∷ []) (o ∷ []) o.after (view r a e)) fresh.seen (more done.step none)), done.represents);
      same_files = λ b left.
          let back = comes_back m b left in (
            sym (ap (λ t. t.code) done.answered) ∙ (ap (λ y. y.code) same ∙ back.code),
            (o.after, done.represents, subst (λ y. SameFiles y.after.files b.files) (sym same) back.files),
          );
    }
