-- What a run of a command gives.
use Rattle.std.specs.Prelude.{◌≡◌, ◌≢◌, ℕ, ◌⊎◌, List, Bool, Option, IfSome, Result, Ok, Err, false}
use Rattle.us_outside.specs.Causes.{Faults}
use Rattle.us_outside.specs.Files.{Files}
use Rattle.us_status.specs.declared.status.Slot.{Slot}
use Rattle.us_status.specs.declared.status.Status.{Status}
use Rattle.us_status.specs.declared.status.Status.TheVariants.{Done, Words, WriteFault}
use Rattle.us_status.specs.Uses.{Use}
use Rattle.us_status.specs.Answers.{IsAnswer, IsCaused, IsPlainOrMemory, NoneRose, status_of}
use Rattle.us_status.specs.Stands.{Outcome, Stands, Keeps, nothing}

-- what a command comes to where no call of the outside fails and there is memory enough. Its steps go in order, and the first that fails is the
-- answer; what they have given settles which files it may store and what it may print
pub record Task : Type 1 where
  pub Given : Type 0  -- what its steps give
  pub uses : List Use  -- the calls that it may make
  pub prints : Bool  -- whether it prints
  pub reached : Files → List Slot  -- the files that it comes to read: those before which all steps pass
  pub steps : Files → Result Given Status
  pub Makes : Given → Outcome → Type 0  -- the outcomes that it allows
  pub Means : Files → Files → Type 0  -- what the files that there are after it is done mean, by those before

-- the answer of a command
abbrev pub plain_status : Task → Files → Status
plain_status t fs = status_of (t.steps fs)

-- where a step fails, nothing is stored and printed
abbrev pub MayMake : (t : Task) → Result t.Given Status → Outcome → Type 0
MayMake t (Ok given) o = t.Makes given o
MayMake t (Err status) o = o ≡ nothing

-- the outcomes that a command allows, with these files
abbrev pub Allows : Task → Files → Outcome → Type 0
Allows t fs o = MayMake t (t.steps fs) o

-- what is meant where a command was done
abbrev pub DoneMeans : Status → Task → Files → Option Files → Type 0
DoneMeans Done t fs after = IfSome after (t.Means fs)
DoneMeans _ t fs after = Unit {0}

-- what an outside tells: its files, what was printed, and its counts of faults
pub record Told : Type 0 where
  pub files : Option Files
  pub printed : Option (List ℕ)
  pub faults : Faults

abbrev pub told : Option Files → Option (List ℕ) → Faults → Told
told files printed faults = record { files = files; printed = printed; faults = faults }

-- a command that did nothing: all is as it was
abbrev pub StopsBefore : Status → Files → Option (List ℕ) → Option Files → Option (List ℕ) → Type 0
StopsBefore Done fs printed fs' printed' = ⊥
StopsBefore (WriteFault slot) fs printed fs' printed' = ⊥
StopsBefore answer fs printed fs' printed' = Keeps fs printed fs' printed'

-- there is an outcome that the command allows, and it stands; or the run stopped before it
abbrev pub SomeStands : Task → Status → Files → Option (List ℕ) → Option Files → Option (List ℕ) → Type 0
SomeStands t answer fs printed fs' printed' =
    StopsBefore answer fs printed fs' printed' ⊎ ((o : Outcome) × Allows t fs o × Stands o answer fs printed fs' printed')

pub record IsRunOf (t : Task) (before now : Told) (answer : Status) : Type 0 where
  -- where files are told, the answer is that of the command's steps, or want of memory, or a fault
  pub plain : IfSome before.files (λ fs. IsAnswer (t.reached fs) (plain_status t fs) answer)
  pub words : answer ≢ Words
  -- a fault comes only where the count of that call and file rose, and where none rose there is no fault
  pub cause : IsCaused t.uses before.faults now.faults answer
  pub complete : NoneRose t.uses before.faults now.faults → IfSome before.files (λ fs. IsPlainOrMemory (plain_status t fs) answer)
  -- an allowed outcome stands, whole after `Done`, and up to the failing place after a failed write; after any other answer all may be as it was
  pub stands : IfSome before.files (λ fs. SomeStands t answer fs before.printed now.files now.printed)
  -- after `Done` the files mean what the command says
  pub means : IfSome before.files (λ fs. DoneMeans answer t fs now.files)
  pub printed : t.prints ≡ false → now.printed ≡ before.printed
