-- Two outcomes of one command have one status and one text.
use Rattle.std.proofs.Common.{◌≡◌, ℕ, List, length, Option, Some, None, true, false, nat_lt, MatchBool, sym, ap, ◌∙◌, inl, inr, ◌⊎◌, subst}
use Rattle.fd_base.specs.Fetched.{Files}
use Rattle.load_model.specs.declared.error.LoadRefusal.{LoadRefusal}
use Rattle.load_model.specs.declared.plan.MemPlan.{MemPlan}
use Rattle.load_laws.proofs.SameLoads.{loads_determined}
use Rattle.load_state.specs.Loaded.{Loaded}
use Rattle.run_model.specs.declared.job.Job.{Job}
use Rattle.job_text.proofs.UniqueJobs as unique
use Rattle.run_laws.proofs.RunsDetermined.{runs_determined}
use Rattle.run_model.specs.declared.thread.Turned.{Turned}
use Rattle.run_model.specs.declared.thread.Turned.TheVariants as turned
use Rattle.run_model.specs.Courses.{Course}
use Rattle.run_model.specs.Report.{report_of}
use Rattle.fdpic_cmd.specs.declared.command.Command.{Command}
use Rattle.fdpic_cmd.specs.declared.command.Command.TheVariants.{As, Bind, BindJob, Code, Link, Run, Show}
use Rattle.fdpic_cmd.specs.Outcome.{Outcome, writes, refuses, put_as}
use Rattle.a32_asm.specs.Text.{assembled}
use Rattle.fdpic_cmd.specs.Assemble.{AsMeans, file_of}
use Rattle.fdpic_cmd.specs.Link.{linked_file}
use Rattle.fdpic_cmd.specs.Bind.{plan_of, refusal_of}
use Rattle.fdpic_cmd.specs.Jobs.{OnJob, OnNoJob, JobMeans}
use Rattle.fdpic_cmd.specs.Program.{ProgramMeans}
use Rattle.fdpic_cmd.specs.Run.{IsStatusOf, JobRunMeans}
use Rattle.fdpic_cmd.specs.Slots.{slot_listing}
use Rattle.fdpic_cmd.specs.declared.status.Status.{Status}
use Rattle.fdpic_cmd.specs.declared.status.Refusal.{Refusal}
use Rattle.fdpic_cmd.specs.declared.status.Refusal.TheVariants.{TooLong, Job as NoJob, Load}
use Rattle.std.specs.FinMap.{get}
use Rattle.fdpic_cmd.specs.Files.{OnFound}
use Rattle.elf_listing.specs.Shown.{listing_of}
use Rattle.fdpic_cmd.specs.Code.{code_listing}
use Rattle.fdpic_cmd.specs.Show.{CodeMeans, ShowMeans, listed, shown_as}
use Rattle.fdpic_cmd.specs.Meaning.{Means}

-- one status and one text
pub record Agree (a b : Outcome) : Type 0 where
  pub status : a.status ≡ b.status
  pub text : a.text ≡ b.text

pub agree_same : (a b c : Outcome) → a ≡ c → b ≡ c → Agree a b
agree_same a b c p q = record { status = ap (λ o. o.status) (p ∙ sym q); text = ap (λ o. o.text) (p ∙ sym q) }

-- a load comes to one process, or to one refusal
program_agrees : (plan : MemPlan) (name : List ℕ) (said : LoadRefusal → Refusal) (told : Files) (a b : Outcome) → ProgramMeans plan name said told a
    → ProgramMeans plan name said told b → Agree a b
program_agrees plan name said told a b (inl p) (inl q) =
    let same = loads_determined.same plan told name p.loaded q.loaded p.loads q.loads in
    agree_same a b (writes (slot_listing q.loaded.modules.process q.loaded.modules.maps))
    (p.lists ∙ ap (λ (l : Loaded). writes (slot_listing l.modules.process l.modules.maps)) same) q.lists
program_agrees plan name said told a b (inl p) (inr q) = absurd (loads_determined.exclusive plan told name p.loaded q.refusal p.loads q.refused)
program_agrees plan name said told a b (inr p) (inl q) = absurd (loads_determined.exclusive plan told name q.loaded p.refusal q.loads p.refused)
program_agrees plan name said told a b (inr p) (inr q) =
    let same = loads_determined.same_refusal plan told name p.refusal q.refusal p.refused q.refused in
    agree_same a b (refuses (said q.refusal)) (p.says ∙ ap (λ r. refuses (said r)) same) q.says

agree_found : (name : List ℕ) (means : List ℕ → Outcome → Type 0) → ((bytes : List ℕ) (a b : Outcome) → means bytes a → means bytes b → Agree a b)
    → (f : Option (List ℕ)) (a b : Outcome) → OnFound name means f a → OnFound name means f b → Agree a b
agree_found name means agree None a b p q = agree_same a b _ p q
agree_found name means agree (Some bytes) a b p q =
    elim (nat_lt 4194304 (length bytes)) as (λ c. MatchBool c (a ≡ refuses (TooLong name)) (means bytes a) → MatchBool c (b ≡ refuses (TooLong name)) (means bytes b) → Agree a b) [
      | true ↦ λ p q. agree_same a b _ p q
      | false ↦ λ p q. agree bytes a b p q
    ] p q

-- a text has one file, or one refusal
as_agrees : (out input : List ℕ) (told : Files) (a b : Outcome) → AsMeans out input told a → AsMeans out input told b → Agree a b
as_agrees out input told a b p q =
    agree_found input (λ text o. o ≡ put_as out (file_of (assembled text))) (λ text a b p q. agree_same a b (put_as out (file_of (assembled text))) p q)
    (get told input) a b p q

-- a file has one listing, or one refusal
code_agrees : (file : List ℕ) (told : Files) (a b : Outcome) → CodeMeans file told a → CodeMeans file told b → Agree a b
code_agrees file told a b p q =
    agree_found file (λ bytes o. o ≡ listed code_listing file bytes) (λ bytes a b p q. agree_same a b (listed code_listing file bytes) p q) (get told file) a b p q

show_agrees : (file : List ℕ) (told : Files) (a b : Outcome) → ShowMeans file told a → ShowMeans file told b → Agree a b
show_agrees file told a b p q =
    agree_found file (λ bytes o. o ≡ shown_as file (listing_of bytes)) (λ bytes a b p q. agree_same a b (shown_as file (listing_of bytes)) p q) (get told file) a b p q

-- a text is one job, or is refused in one way
text_agrees : (means : Job → Outcome → Type 0) → ((job : Job) (a b : Outcome) → means job a → means job b → Agree a b) → (bytes : List ℕ) (a b : Outcome)
    → OnJob means bytes a ⊎ OnNoJob bytes a → OnJob means bytes b ⊎ OnNoJob bytes b → Agree a b
text_agrees means agree bytes a b (inl p) (inl q) = agree q.job a b (subst (λ job. means job a) (unique.same bytes p.job q.job p.is q.is) p.meant) q.meant
text_agrees means agree bytes a b (inl p) (inr q) = absurd (unique.exclusive bytes p.job q.refusal p.is q.refused)
text_agrees means agree bytes a b (inr p) (inl q) = absurd (unique.exclusive bytes q.job p.refusal q.is p.refused)
text_agrees means agree bytes a b (inr p) (inr q) =
    agree_same a b (refuses (NoJob q.refusal.line q.refusal.kind))
    (p.says ∙ ap (λ r. refuses (NoJob r.line r.kind)) (unique.first bytes p.refusal q.refusal p.refused q.refused)) q.says

-- what is done with the job in a file comes to one status and one text, where it does so with each job
in_file : (means : Job → Outcome → Type 0) → ((job : Job) (a b : Outcome) → means job a → means job b → Agree a b) → (file : List ℕ) (told : Files)
    (a b : Outcome) → JobMeans means file told a → JobMeans means file told b → Agree a b
in_file means agree file told a b p q =
    agree_found file (λ bytes o. OnJob means bytes o ⊎ OnNoJob bytes o) (text_agrees means agree) (get told file) a b p q

-- ---- runs

one_status : (answer : Turned) (a b : Status) → IsStatusOf answer a → IsStatusOf answer b → a ≡ b
one_status turned.Ended a b p q = p ∙ sym q
one_status (turned.Stopped why) a b p q = p ∙ sym q
one_status turned.Next a b p q = absurd p
one_status turned.Yield a b p q = absurd p
one_status turned.ThreadDone a b p q = absurd p
one_status turned.StoreFault a b p q = absurd p
one_status turned.SinkFault a b p q = absurd p
one_status turned.Memory a b p q = absurd p

-- the run of a job comes to one course, or to one refusal
run_agrees : (told : Files) (job : Job) (a b : Outcome) → JobRunMeans told job a → JobRunMeans told job b → Agree a b
run_agrees told job a b (inl p) (inl q) =
    let same : p.course ≡ q.course = runs_determined.same job told p.course q.course p.run q.run in
    let is : IsStatusOf q.course.answer a.status = subst (λ (c : Course). IsStatusOf c.answer a.status) same p.status' in
    record {
      status = one_status q.course.answer a.status b.status is q.status';
      text = p.text' ∙ ap (λ (c : Course). report_of c.events) same ∙ sym q.text';
    }
run_agrees told job a b (inl p) (inr q) = absurd (runs_determined.exclusive job told p.course q.refusal p.run q.refused)
run_agrees told job a b (inr p) (inl q) = absurd (runs_determined.exclusive job told q.course p.refusal q.run p.refused)
run_agrees told job a b (inr p) (inr q) =
    let same = runs_determined.one_refusal job told p.refusal q.refusal p.refused q.refused in
    agree_same a b (refuses (Load q.refusal)) (p.says ∙ ap (λ r. refuses (Load r)) same) q.says

pub agrees : (command : Command) (told : Files) (a b : Outcome) → Means command told a → Means command told b → Agree a b
agrees (As out input) told a b p q = as_agrees out input told a b p q
agrees (Bind file text data') told a b p q = program_agrees (plan_of file text data') file (refusal_of file) told a b p q
agrees (BindJob file) told a b p q =
    in_file (λ job o. ProgramMeans job.plan job.program Load told o) (λ job a b p q. program_agrees job.plan job.program Load told a b p q) file told a b p q
agrees (Code file) told a b p q = code_agrees file told a b p q
agrees (Link out mode libs inputs) told a b p q = agree_same a b (put_as out (linked_file out mode libs inputs told)) p q
agrees (Run file) told a b p q = in_file (JobRunMeans told) (run_agrees told) file told a b p q
agrees (Show file) told a b p q = show_agrees file told a b p q
