-- How the parts of the top call end, and what its clauses say of it.
use Rattle.std.proofs.Common.{◌≡◌, ◌⊎◌, ℕ, zero, suc, ◌+◌, ◌≤◌, ◌<◌, Bool, true, false, List, [], ◌∷◌, ◌++◌, length, Option, Some, None, Result, Ok, Err, IfSome, refl, sym, ap, ◌∙◌, subst, inl, inr, append_assoc, append-nil, arith}
use Rattle.std.specs.Prelude.{slice_index, nat_lt, option_map, replicate}
use Rattle.std.proofs.lemmas.Bool.{lt-ltb, le-ltb, ltb-true}
use Rattle.std.proofs.lemmas.List.{length-replicate}
use Rattle.std.specs.List.{flat_map}
use Rattle.axp_asm.specs.Listings.{line_of, listing, segment_listed}
use Rattle.axp_source.specs.Items.{Directs, Item}
use Rattle.axp_source.specs.Texts.{item_text}
use Rattle.axp_source.specs.declared.statements.Directive.TheVariants as directive
use Rattle.axp_trace.specs.declared.files.TheConstants.{LINE_FEED}
use Rattle.axp_image.specs.Contents.{AreBytes, Contents, IsValid}
use Rattle.axp_image.proofs.NoFaultLemmas.{fault_is_no_image}
use Rattle.axp_image.specs.Faults.{Fault, first_fault}
use Rattle.axp_image.specs.Grammar as grammar
use Rattle.axp_image.specs.Grammar.{image_of}
use Rattle.axp_io.specs.Causes.{Ask, FetchAsks, FetchCount, FetchTold, raised}
use Rattle.axp_io.specs.declared.FetchFault.{FetchFault}
use Rattle.axp_io.specs.declared.FetchFault.TheVariants as fetch
use Rattle.axp_trace.specs.Files.{lines_of}
use Rattle.axp_top.specs.declared.limits.TheConstants.{MAX_IMAGE_BYTES, MAX_TRACE_BYTES}
use Rattle.axp_top.specs.declared.status.Status.{Status}
use Rattle.axp_top.specs.declared.status.Status.TheVariants as status
use Rattle.axp_top.specs.Answers.{answer_by, answer_if_told, answer_of, answer_of_files, answer_of_image, answer_of_trace, answer_over, answer_to_lines, answer_with, image_name, more_asks, trace_told_by, asks_by, asks_of, bad_image, image_in, image_told, no_image, read_fault, too_long, trace_told, usage}
use Rattle.axp_top.specs.Lawful.{IsLawful, image_of_file, image_over, lines_of_file}
use Rattle.axp_top.specs.Outside.{DeskState, Outside, SinkState}
use Rattle.axp_top.specs.Printing.{Ends}
use Rattle.axp_top.specs.declared.trace_tasks.TraceTask.{TraceTask}
use Rattle.axp_top.specs.Replays.{Answer}
use Rattle.axp_top.specs.Serving.{Course, FetchesImage, Serves, ServesTrace}
use Rattle.axp_top.specs.Statuses.{AsksFailed, AsksFront, AsksInTurn, AsksNeeded, DeskCount, PutsEach, Settles, SettlesLawfully, SettlesSome, SinkCount}
use Rattle.axp_top.specs.ImageFiles.{answer_of_source, source_answer, source_ask, source_limit, source_name}
use Rattle.axp_top.specs.SummaryTexts.{summary_answer}
use Rattle.axp_top.specs.Words.{From, Gen, ImageOrder, Listing, Order, Over, Seed, SourceOrder, Traced}
use Rattle.axp_top.proofs.LawfulAnswerLemmas.{over_lawful, told_lawful, valid_in}
use Rattle.axp_top.proofs.StatusLemmas.{IsAnswer, answer_is, asks_in_turn, asks_needed, desk_count, over_is, puts_each, settles, sink_count, source_is, trace_is, with_is}

-- ---- lists that may have been handed over

-- what is told, or nothing
abbrev told_or_none : Option (List ℕ) → List ℕ
told_or_none None = []
told_or_none (Some bytes) = bytes

told_is : (told : Option (List ℕ)) → IfSome told (λ bytes. told_or_none told ≡ bytes)
told_is None = tt
told_is (Some bytes) = refl

-- what is told, or a list that is longer than a limit
unfoldable longer_than : ℕ → List ℕ
longer_than most = replicate (most + 1) 0

longer : (most : ℕ) → most < length (longer_than most)
unfolding longer_than
longer most = let is = length-replicate {A = ℕ} (most + 1) 0 in omega (arith, is)

abbrev told_or_long : ℕ → Option (List ℕ) → List ℕ
told_or_long most None = longer_than most
told_or_long most (Some bytes) = bytes

told_long_is : (most : ℕ) (told : Option (List ℕ)) → IfSome told (λ bytes. told_or_long most told ≡ bytes)
told_long_is most None = tt
told_long_is most (Some bytes) = refl

is_longer : (most : ℕ) (told : Option (List ℕ)) → IfSome told (λ t. most < length t) → most < length (told_or_long most told)
is_longer most None long = longer most
is_longer most (Some bytes) long = long

-- what was handed over is what is told
handed_is : (told : Option (List ℕ)) (bytes : List ℕ) (most : ℕ) → IfSome told (λ t. FetchTold t most (Ok bytes)) → IfSome told (λ t. bytes ≡ t)
handed_is None bytes most h = tt
handed_is (Some t) bytes most h = h.0

-- ---- the asks of one fetch

all_front : (before now asks : List Ask) → now ≡ before ++ asks → AsksFront before now asks
all_front before now asks is = (asks, [], sym (append-nil asks), is)

none_front : (before now asks : List Ask) → now ≡ before → AsksFront before now asks
none_front before now asks is = ([], asks, refl, is ∙ sym (append-nil before))

-- for want of memory the ask may be left out
memory_front : (before now : List Ask) (ask : Ask) → FetchAsks before now ask (Err fetch.Memory) → AsksFront before now (ask ∷ [])
memory_front before now ask (inl e) = none_front before now (ask ∷ []) e
memory_front before now ask (inr e) = all_front before now (ask ∷ []) e

-- ---- the course of one fetch

-- it handed a list over, or all was refused
handed_course : (b n : Outside) (a : Answer) (ask : Ask) (s : Status) → n.desk.faults ≡ b.desk.faults → n.desk.asks ≡ b.desk.asks ++ ask ∷ [] → Ends b.sink n.sink a s → Course b n a (ask ∷ []) s
handed_course b n a ask s count asks ends = inl (record { ends = ends; count = count; some = all_front b.desk.asks n.desk.asks (ask ∷ []) asks; all = λ unless. asks })

-- it failed
failed_course : (b n : Outside) (a : Answer) (ask : Ask) (more : List Ask) (s : Status) (f : FetchFault) → f ≡ fetch.Failed → FetchCount b.desk.faults n.desk.faults (Err f) → FetchAsks b.desk.asks n.desk.asks ask (Err f) → Ends b.sink n.sink read_fault s
    → Course b n a (ask ∷ more) s
failed_course b n a ask more s fetch.Failed is count asks ends = inr (record { ends = ends; count = count; failed = record { good = []; failed = ask; rest = more; parted = refl; made = asks } })
failed_course b n a ask more s fetch.TooLong is count asks ends = cc
failed_course b n a ask more s fetch.Memory is count asks ends = cc

-- memory was not found
unfound_course : (b n : Outside) (a : Answer) (asks : List Ask) → n.sink ≡ b.sink → n.desk.faults ≡ b.desk.faults → AsksFront b.desk.asks n.desk.asks asks → Course b n a asks status.Memory
unfound_course b n a asks same count some = inl (record { ends = inl same; count = count; some = some; all = λ unless. absurd (unless refl) })

-- ---- the event list over an image

pub trace_handed : (b n : Outside) (task : TraceTask) (told : Option (List ℕ)) (ask : Ask) (image : Contents) (bytes slice : List ℕ) (s : Status) → slice ≡ bytes → IfSome told (λ t. FetchTold t MAX_TRACE_BYTES (Ok bytes)) → length bytes ≤ MAX_TRACE_BYTES → n.desk.faults ≡ b.desk.faults
    → n.desk.asks ≡ b.desk.asks ++ ask ∷ [] → Ends b.sink n.sink (answer_to_lines task image (lines_of slice)) s → ServesTrace task told ask image b n s
trace_handed b n task told ask image bytes slice s same is short count asks ends = record {
  list = bytes;
  is_told = handed_is told bytes MAX_TRACE_BYTES is;
  course = handed_course b n (answer_of_trace task image bytes) ask s count asks (rw (le-ltb MAX_TRACE_BYTES (length bytes) short) (subst (λ (x : List ℕ). Ends b.sink n.sink (answer_to_lines task image (lines_of x)) s) same ends));
}

pub trace_failed : (b n : Outside) (task : TraceTask) (told : Option (List ℕ)) (ask : Ask) (image : Contents) (s : Status) (f : FetchFault) → f ≡ fetch.Failed → FetchCount b.desk.faults n.desk.faults (Err f) → FetchAsks b.desk.asks n.desk.asks ask (Err f)
    → Ends b.sink n.sink read_fault s → ServesTrace task told ask image b n s
trace_failed b n task told ask image s f is count asks ends = record { list = told_or_none told; is_told = told_is told; course = failed_course b n (answer_of_trace task image (told_or_none told)) ask [] s f is count asks ends }

pub trace_long : (b n : Outside) (task : TraceTask) (told : Option (List ℕ)) (ask : Ask) (image : Contents) (s : Status) (f : FetchFault) → f ≡ fetch.TooLong → IfSome told (λ t. FetchTold t MAX_TRACE_BYTES (Err f)) → FetchCount b.desk.faults n.desk.faults (Err f)
    → FetchAsks b.desk.asks n.desk.asks ask (Err f) → Ends b.sink n.sink too_long s → ServesTrace task told ask image b n s
trace_long b n task told ask image s fetch.TooLong is long count asks ends = record {
  list = told_or_long MAX_TRACE_BYTES told;
  is_told = told_long_is MAX_TRACE_BYTES told;
  course = rw (lt-ltb MAX_TRACE_BYTES (length (told_or_long MAX_TRACE_BYTES told)) (is_longer MAX_TRACE_BYTES told long)) (handed_course b n too_long ask s count asks ends);
}
trace_long b n task told ask image s fetch.Failed is long count asks ends = cc
trace_long b n task told ask image s fetch.Memory is long count asks ends = cc

pub trace_unfound : (b n : Outside) (task : TraceTask) (told : Option (List ℕ)) (ask : Ask) (image : Contents) (f : FetchFault) → f ≡ fetch.Memory → n.sink ≡ b.sink → FetchCount b.desk.faults n.desk.faults (Err f) → FetchAsks b.desk.asks n.desk.asks ask (Err f)
    → ServesTrace task told ask image b n status.Memory
trace_unfound b n task told ask image fetch.Memory is same count asks = record {
  list = told_or_none told;
  is_told = told_is told;
  course = unfound_course b n (answer_of_trace task image (told_or_none told)) (ask ∷ []) same count (memory_front b.desk.asks n.desk.asks ask asks);
}
trace_unfound b n task told ask image fetch.Failed is same count asks = cc
trace_unfound b n task told ask image fetch.TooLong is same count asks = cc

-- ---- both files

abbrev ByFirst : Outside → Outside → Option Order → List ℕ → List ℕ → Status → Type 0
ByFirst b n order image trace s = Course b n (answer_over order image trace) (asks_by order (image_over order image)) s

-- a course over a file that is no image
refused_course : (b n : Outside) (order : ImageOrder) (image trace : List ℕ) (s : Status) → image_in image ≡ None → Course b n (no_image image) ((image_name order, MAX_IMAGE_BYTES) ∷ []) s → ByFirst b n (Some (Over order)) image trace s
refused_course b n order image trace s none h = rw none h

refused_serves : (told : List ℕ → Option (List ℕ)) (b n : Outside) (order : ImageOrder) (image : List ℕ) (s : Status) → image_in image ≡ None → IfSome (told (image_name order)) (λ bytes. image ≡ bytes) → Course b n (no_image image) ((image_name order, MAX_IMAGE_BYTES) ∷ []) s
    → Serves told (Some (Over order)) b n s
refused_serves told b n order image s none is h = record {
  image = image;
  trace = told_or_none (trace_told_by order told);
  image_is_told = is;
  trace_is_told = told_is (trace_told_by order told);
  course = refused_course b n order image (told_or_none (trace_told_by order told)) s none h;
  sure = inl (rw none tt);
}

-- what is known by the name of a command's image
pub asks_named : (before now : List Ask) (name : List ℕ) (order : ImageOrder) (r : Result (List ℕ) FetchFault) → image_name order ≡ name → FetchAsks before now (name, MAX_IMAGE_BYTES) r → FetchAsks before now (image_name order, MAX_IMAGE_BYTES) r
asks_named before now name order r same h = subst (λ (x : List ℕ). FetchAsks before now (x, MAX_IMAGE_BYTES) r) (sym same) h

pub told_named : (told : List ℕ → Option (List ℕ)) (name : List ℕ) (order : ImageOrder) (r : Result (List ℕ) FetchFault) → image_name order ≡ name → IfSome (told name) (λ t. FetchTold t MAX_IMAGE_BYTES r) → IfSome (told (image_name order)) (λ t. FetchTold t MAX_IMAGE_BYTES r)
told_named told name order r same h = subst (λ (x : List ℕ). IfSome (told x) (λ t. FetchTold t MAX_IMAGE_BYTES r)) (sym same) h

-- the file is within its limit and no image
pub files_refused : (told : List ℕ → Option (List ℕ)) (b n : Outside) (order : ImageOrder) (bytes : List ℕ) (f : Fault) (s : Status) → IfSome (told (image_name order)) (λ t. FetchTold t MAX_IMAGE_BYTES (Ok bytes)) → length bytes ≤ MAX_IMAGE_BYTES → first_fault bytes ≡ Some f → n.desk.faults ≡ b.desk.faults
    → n.desk.asks ≡ b.desk.asks ++ (image_name order, MAX_IMAGE_BYTES) ∷ [] → Ends b.sink n.sink (bad_image f) s → Serves told (Some (Over order)) b n s
files_refused told b n order bytes f s is short fault count asks ends =
    let within : nat_lt MAX_IMAGE_BYTES (length bytes) ≡ false = le-ltb MAX_IMAGE_BYTES (length bytes) short in
    refused_serves told b n order bytes s (rw within (fault_is_no_image bytes f fault)) (handed_is (told (image_name order)) bytes MAX_IMAGE_BYTES is)
    (rw (within, fault) (handed_course b n (bad_image f) (image_name order, MAX_IMAGE_BYTES) s count asks ends))

-- the empty list is no image
none_is_no_image : image_of [] ≡ None
unfolding image_of grammar.header_of grammar.number_at grammar.piece_at
none_is_no_image = refl

-- so the file of an image has a byte
pub image_has_bytes : (file : List ℕ) (c : Contents) → image_of file ≡ Some c → 0 < length file
image_has_bytes [] c is = absurd (let never : None ≡ Some c = sym none_is_no_image ∙ is in cc)
image_has_bytes (b ∷ file) c is = omega arith

-- the listing of an image has a byte: a line feed stands behind its first line
listed_byte : (item : Item) (items : List Item) → 0 < length (flat_map line_of (item ∷ items))
listed_byte item items = some_byte (item_text item) (flat_map line_of items)
  where
    some_byte : (front back : List ℕ) → 0 < length ((front ++ LINE_FEED ∷ []) ++ back)
    some_byte [] back = omega arith
    some_byte (b ∷ front) back = omega arith

pub listing_has_bytes : (text : List ℕ) (c : Contents) → text ≡ listing c → 0 < length text
unfolding listing
listing_has_bytes text c is =
    let others = Directs (directive.Entry c.entry) ∷ Directs (directive.Stack c.stack) ∷ Directs (directive.Table c.table) ∷ flat_map segment_listed c.segments in
    subst (λ (t : List ℕ). 0 < length t) (sym is) (listed_byte (Directs (directive.Memory c.size)) others)

pub files_long : (told : List ℕ → Option (List ℕ)) (b n : Outside) (order : ImageOrder) (s : Status) (f : FetchFault) → f ≡ fetch.TooLong → IfSome (told (image_name order)) (λ t. FetchTold t MAX_IMAGE_BYTES (Err f)) → FetchCount b.desk.faults n.desk.faults (Err f)
    → FetchAsks b.desk.asks n.desk.asks (image_name order, MAX_IMAGE_BYTES) (Err f) → Ends b.sink n.sink too_long s → Serves told (Some (Over order)) b n s
files_long told b n order s fetch.TooLong is long count asks ends =
    let list = told_or_long MAX_IMAGE_BYTES (told (image_name order)) in
    let over : nat_lt MAX_IMAGE_BYTES (length list) ≡ true = lt-ltb MAX_IMAGE_BYTES (length list) (is_longer MAX_IMAGE_BYTES (told (image_name order)) long) in
    refused_serves told b n order list s (rw over refl) (told_long_is MAX_IMAGE_BYTES (told (image_name order))) (rw over (handed_course b n too_long (image_name order, MAX_IMAGE_BYTES) s count asks ends))
files_long told b n order s fetch.Failed is long count asks ends = cc
files_long told b n order s fetch.Memory is long count asks ends = cc

-- what holds over each first file
each_serves : (told : List ℕ → Option (List ℕ)) (b n : Outside) (order : ImageOrder) (s : Status) → ((image trace : List ℕ) → ByFirst b n (Some (Over order)) image trace s) → Serves told (Some (Over order)) b n s
each_serves told b n order s each = record {
  image = told_or_none (told (image_name order));
  trace = told_or_none (trace_told_by order told);
  image_is_told = told_is (told (image_name order));
  trace_is_told = told_is (trace_told_by order told);
  course = each (told_or_none (told (image_name order))) (told_or_none (trace_told_by order told));
  sure = inr (λ other. each other (told_or_none (trace_told_by order told)));
}

failed_by : (b n : Outside) (order : ImageOrder) (bytes : List ℕ) (image : Option Contents) (trace : List ℕ) (s : Status) (f : FetchFault) → f ≡ fetch.Failed → FetchCount b.desk.faults n.desk.faults (Err f) → FetchAsks b.desk.asks n.desk.asks (image_name order, MAX_IMAGE_BYTES) (Err f)
    → Ends b.sink n.sink read_fault s → Course b n (answer_by order bytes image trace) (asks_by (Some (Over order)) image) s
failed_by b n order bytes None trace s f is count asks ends = failed_course b n (no_image bytes) _ [] s f is count asks ends
failed_by b n order bytes (Some image) trace s f is count asks ends = failed_course b n (answer_with order image trace) _ _ s f is count asks ends

pub files_failed : (told : List ℕ → Option (List ℕ)) (b n : Outside) (order : ImageOrder) (s : Status) (f : FetchFault) → f ≡ fetch.Failed → FetchCount b.desk.faults n.desk.faults (Err f) → FetchAsks b.desk.asks n.desk.asks (image_name order, MAX_IMAGE_BYTES) (Err f)
    → Ends b.sink n.sink read_fault s → Serves told (Some (Over order)) b n s
files_failed told b n order s f is count asks ends = each_serves told b n order s (λ image trace. failed_by b n order image (image_in image) trace s f is count asks ends)

-- memory was not found, once the first file was asked for or before
longer_front : (before now : List Ask) (ask : Ask) (more : List Ask) → AsksFront before now (ask ∷ []) → AsksFront before now (ask ∷ more)
longer_front before now ask more h = (h.0, h.1 ++ more, ap (λ (xs : List Ask). xs ++ more) h.2 ∙ append_assoc h.0 h.1 more, h.3)

unfound_by : (b n : Outside) (order : ImageOrder) (bytes : List ℕ) (image : Option Contents) (trace : List ℕ) → n.sink ≡ b.sink → n.desk.faults ≡ b.desk.faults → AsksFront b.desk.asks n.desk.asks ((image_name order, MAX_IMAGE_BYTES) ∷ [])
    → Course b n (answer_by order bytes image trace) (asks_by (Some (Over order)) image) status.Memory
unfound_by b n order bytes None trace same count some = unfound_course b n (no_image bytes) _ same count some
unfound_by b n order bytes (Some image) trace same count some = unfound_course b n (answer_with order image trace) _ same count (longer_front b.desk.asks n.desk.asks _ _ some)

files_unfound : (told : List ℕ → Option (List ℕ)) (b n : Outside) (order : ImageOrder) → n.sink ≡ b.sink → n.desk.faults ≡ b.desk.faults → AsksFront b.desk.asks n.desk.asks ((image_name order, MAX_IMAGE_BYTES) ∷ []) → Serves told (Some (Over order)) b n status.Memory
files_unfound told b n order same count some = each_serves told b n order status.Memory (λ image trace. unfound_by b n order image (image_in image) trace same count some)

pub files_unfound_first : (told : List ℕ → Option (List ℕ)) (b n : Outside) (order : ImageOrder) (f : FetchFault) → f ≡ fetch.Memory → n.sink ≡ b.sink → FetchCount b.desk.faults n.desk.faults (Err f) → FetchAsks b.desk.asks n.desk.asks (image_name order, MAX_IMAGE_BYTES) (Err f)
    → Serves told (Some (Over order)) b n status.Memory
files_unfound_first told b n order fetch.Memory is same count asks = files_unfound told b n order same count (memory_front b.desk.asks n.desk.asks (image_name order, MAX_IMAGE_BYTES) asks)
files_unfound_first told b n order fetch.Failed is same count asks = cc
files_unfound_first told b n order fetch.TooLong is same count asks = cc

pub files_unfound_image : (told : List ℕ → Option (List ℕ)) (b n : Outside) (order : ImageOrder) → n.sink ≡ b.sink → n.desk.faults ≡ b.desk.faults → n.desk.asks ≡ b.desk.asks ++ (image_name order, MAX_IMAGE_BYTES) ∷ [] → Serves told (Some (Over order)) b n status.Memory
files_unfound_image told b n order same count asks = files_unfound told b n order same count (all_front b.desk.asks n.desk.asks _ asks)

-- the image was handed over
pub image_fetched : (told : List ℕ → Option (List ℕ)) (b n : Outside) (name bytes : List ℕ) (image : Contents) → IfSome (told name) (λ t. FetchTold t MAX_IMAGE_BYTES (Ok bytes)) → length bytes ≤ MAX_IMAGE_BYTES → Some image ≡ image_of bytes → IsValid image
    → n.sink ≡ b.sink → n.desk.faults ≡ b.desk.faults → n.desk.asks ≡ b.desk.asks ++ (name, MAX_IMAGE_BYTES) ∷ [] → FetchesImage told name b n image
image_fetched told b n name bytes image is short reads valid same count asks = record {
  file = bytes;
  is_told = handed_is (told name) bytes MAX_IMAGE_BYTES is;
  read = rw (le-ltb MAX_IMAGE_BYTES (length bytes) short) (sym reads);
  valid = valid;
  sink = same;
  count = count;
  asks = asks;
}

-- a command over one image alone, of which the file is all that is asked for
pub alone_served : (told : List ℕ → Option (List ℕ)) (b between : Outside) (sink : SinkState) (order : ImageOrder) (image : Contents) (s : Status) → more_asks order ≡ [] → trace_told_by order told ≡ None → FetchesImage told (image_name order) b between image
    → Ends between.sink sink (answer_with order image []) s → Serves told (Some (Over order)) b (record { sink = sink; desk = between.desk }) s
alone_served told b between sink order image s alone none h ends =
    let now : Outside = record { sink = sink; desk = between.desk } in
    record {
      image = h.file;
      trace = [];
      image_is_told = h.is_told;
      trace_is_told = rw none tt;
      course = rw (h.read, alone) (handed_course b now (answer_with order image []) (image_name order, MAX_IMAGE_BYTES) s h.count h.asks (subst (λ (x : SinkState). Ends x sink (answer_with order image []) s) h.sink ends));
      sure = inl (rw h.read h.valid);
    }

-- ---- the second file behind the first

then_front : (before between now : List Ask) (ask : Ask) (more : List Ask) → between ≡ before ++ ask ∷ [] → AsksFront between now more → AsksFront before now (ask ∷ more)
then_front before between now ask more is h = (ask ∷ h.0, h.1, ap (λ (xs : List Ask). ask ∷ xs) h.2, h.3 ∙ ap (λ (xs : List Ask). xs ++ h.0) is ∙ append_assoc before (ask ∷ []) h.0)

then_failed : (before between now : List Ask) (ask : Ask) (more : List Ask) → between ≡ before ++ ask ∷ [] → AsksFailed between now more → AsksFailed before now (ask ∷ more)
then_failed before between now ask more is h = record {
  good = ask ∷ h.good;
  failed = h.failed;
  rest = h.rest;
  parted = ap (λ (xs : List Ask). ask ∷ xs) h.parted;
  made = h.made ∙ ap (λ (xs : List Ask). xs ++ (h.good ++ h.failed ∷ [])) is ∙ append_assoc before (ask ∷ []) (h.good ++ h.failed ∷ []);
}

then_all : (before between now : List Ask) (ask : Ask) (more : List Ask) → between ≡ before ++ ask ∷ [] → now ≡ between ++ more → now ≡ before ++ ask ∷ more
then_all before between now ask more is all = all ∙ ap (λ (xs : List Ask). xs ++ more) is ∙ append_assoc before (ask ∷ []) more

then_course : (b between n : Outside) (a : Answer) (ask : Ask) (more : List Ask) (s : Status) → between.sink ≡ b.sink → between.desk.faults ≡ b.desk.faults → between.desk.asks ≡ b.desk.asks ++ ask ∷ [] → Course between n a more s → Course b n a (ask ∷ more) s
then_course b between n a ask more s same count asks (inl h) = inl (record {
  ends = subst (λ (x : SinkState). Ends x n.sink a s) same h.ends;
  count = h.count ∙ count;
  some = then_front b.desk.asks between.desk.asks n.desk.asks ask more asks h.some;
  all = λ unless. then_all b.desk.asks between.desk.asks n.desk.asks ask more asks (h.all unless);
})
then_course b between n a ask more s same count asks (inr h) = inr (record {
  ends = subst (λ (x : SinkState). Ends x n.sink read_fault s) same h.ends;
  count = h.count ∙ ap (λ k. raised k 1) count;
  failed = then_failed b.desk.asks between.desk.asks n.desk.asks ask more asks h.failed;
})

-- the second file's name is told the same after the first fetch
told_before : (now before : Option (List ℕ)) (bytes : List ℕ) → now ≡ before → IfSome now (λ t. bytes ≡ t) → IfSome before (λ t. bytes ≡ t)
told_before now before bytes same is = subst (λ (o : Option (List ℕ)). IfSome o (λ t. bytes ≡ t)) same is

pub files_served : (told told' : List ℕ → Option (List ℕ)) (b between n : Outside) (task : TraceTask) (first second : List ℕ) (image : Contents) (s : Status) → FetchesImage told first b between image → ((name : List ℕ) → told' name ≡ told name)
    → ServesTrace task (told' second) (second, MAX_TRACE_BYTES) image between n s → Serves told (Some (Over (Traced task first second))) b n s
files_served told told' b between n task first second image s fetched stays h = record {
  image = fetched.file;
  trace = h.list;
  image_is_told = fetched.is_told;
  trace_is_told = told_before (told' second) (told second) h.list (stays second) h.is_told;
  course = rw fetched.read (then_course b between n (answer_of_trace task image h.list) (first, MAX_IMAGE_BYTES) ((second, MAX_TRACE_BYTES) ∷ []) s fetched.sink fetched.count fetched.asks h.course);
  sure = inl (rw fetched.read fetched.valid);
}

-- ---- a source: one file alone

source_serves : (told : List ℕ → Option (List ℕ)) (b n : Outside) (source : SourceOrder) (bytes : List ℕ) (s : Status) → IfSome (told (source_name source)) (λ t. bytes ≡ t) → Course b n (source_answer source bytes) (source_ask source ∷ []) s → Serves told (Some (From source)) b n s
source_serves told b n source bytes s is h = record { image = bytes; trace = []; image_is_told = is; trace_is_told = tt; course = h; sure = inl tt }

pub source_served : (told : List ℕ → Option (List ℕ)) (b n : Outside) (source : SourceOrder) (bytes slice : List ℕ) (s : Status) → slice ≡ bytes → IfSome (told (source_name source)) (λ t. FetchTold t (source_limit source) (Ok bytes)) → length bytes ≤ source_limit source → n.desk.faults ≡ b.desk.faults
    → n.desk.asks ≡ b.desk.asks ++ source_ask source ∷ [] → Ends b.sink n.sink (answer_of_source source slice) s → Serves told (Some (From source)) b n s
source_served told b n source bytes slice s same is short count asks ends =
    let within : nat_lt (source_limit source) (length bytes) ≡ false = le-ltb (source_limit source) (length bytes) short in
    source_serves told b n source bytes s (handed_is (told (source_name source)) bytes (source_limit source) is)
    (rw within (handed_course b n (answer_of_source source bytes) (source_ask source) s count asks (subst (λ (x : List ℕ). Ends b.sink n.sink (answer_of_source source x) s) same ends)))

pub source_long : (told : List ℕ → Option (List ℕ)) (b n : Outside) (source : SourceOrder) (s : Status) (f : FetchFault) → f ≡ fetch.TooLong → IfSome (told (source_name source)) (λ t. FetchTold t (source_limit source) (Err f)) → FetchCount b.desk.faults n.desk.faults (Err f)
    → FetchAsks b.desk.asks n.desk.asks (source_ask source) (Err f) → Ends b.sink n.sink too_long s → Serves told (Some (From source)) b n s
source_long told b n source s fetch.TooLong is long count asks ends =
    let list = told_or_long (source_limit source) (told (source_name source)) in
    let over : nat_lt (source_limit source) (length list) ≡ true = lt-ltb (source_limit source) (length list) (is_longer (source_limit source) (told (source_name source)) long) in
    source_serves told b n source list s (told_long_is (source_limit source) (told (source_name source))) (rw over (handed_course b n too_long (source_ask source) s count asks ends))
source_long told b n source s fetch.Failed is long count asks ends = cc
source_long told b n source s fetch.Memory is long count asks ends = cc

pub source_failed : (told : List ℕ → Option (List ℕ)) (b n : Outside) (source : SourceOrder) (s : Status) (f : FetchFault) → f ≡ fetch.Failed → FetchCount b.desk.faults n.desk.faults (Err f) → FetchAsks b.desk.asks n.desk.asks (source_ask source) (Err f)
    → Ends b.sink n.sink read_fault s → Serves told (Some (From source)) b n s
source_failed told b n source s f is count asks ends =
    source_serves told b n source (told_or_none (told (source_name source))) s (told_is (told (source_name source))) (failed_course b n (source_answer source (told_or_none (told (source_name source)))) (source_ask source) [] s f is count asks ends)

pub source_unfound : (told : List ℕ → Option (List ℕ)) (b n : Outside) (source : SourceOrder) (f : FetchFault) → f ≡ fetch.Memory → n.sink ≡ b.sink → FetchCount b.desk.faults n.desk.faults (Err f) → FetchAsks b.desk.asks n.desk.asks (source_ask source) (Err f)
    → Serves told (Some (From source)) b n status.Memory
source_unfound told b n source fetch.Memory is same count asks =
    source_serves told b n source (told_or_none (told (source_name source))) status.Memory (told_is (told (source_name source)))
    (unfound_course b n (source_answer source (told_or_none (told (source_name source)))) (source_ask source ∷ []) same count (memory_front b.desk.asks n.desk.asks (source_ask source) asks))
source_unfound told b n source fetch.Failed is same count asks = cc
source_unfound told b n source fetch.TooLong is same count asks = cc

-- ---- a summary, and no command: nothing is asked for

unasked_course : (b n : Outside) (a : Answer) (s : Status) → n.desk ≡ b.desk → Ends b.sink n.sink a s → Course b n a [] s
unasked_course b n a s same ends =
    let asks : n.desk.asks ≡ b.desk.asks = ap (λ (d : DeskState). d.asks) same in
    inl (record {
      ends = ends;
      count = ap (λ (d : DeskState). d.faults) same;
      some = none_front b.desk.asks n.desk.asks [] asks;
      all = λ unless. asks ∙ sym (append-nil b.desk.asks);
    })

pub summary_served : (told : List ℕ → Option (List ℕ)) (b n : Outside) (number : ℕ) (s : Status) → n.desk ≡ b.desk → Ends b.sink n.sink (summary_answer number) s → Serves told (Some (Gen number)) b n s
summary_served told b n number s same ends =
    record { image = []; trace = []; image_is_told = tt; trace_is_told = tt; course = unasked_course b n (summary_answer number) s same ends; sure = inl tt }

pub nothing_served : (told : List ℕ → Option (List ℕ)) (b n : Outside) (s : Status) → n.desk ≡ b.desk → Ends b.sink n.sink usage s → Serves told None b n s
nothing_served told b n s same ends =
    record { image = []; trace = []; image_is_told = tt; trace_is_told = tt; course = unasked_course b n usage s same ends; sure = inl tt }

-- ---- the clauses, where the files are told

-- an answer, and the course by it
record IsServed (b n : Outside) (s : Status) (a : Answer) : Type 0 where
  pub is : IsAnswer a
  pub asks : List Ask
  pub course : Course b n a asks s

told_if_served : (b n : Outside) (asks : List Ask) (s : Status) (order : ImageOrder) (image : Contents) (trace : List ℕ) (told : Option (List ℕ)) → IfSome told (λ t. trace ≡ t) → Course b n (answer_with order image trace) asks s → IfSome (answer_if_told order image told) (IsServed b n s)
told_if_served b n asks s (Traced task i t) image trace None is h = tt
told_if_served b n asks s (Traced task i t) image trace (Some list) is h = subst (λ (x : List ℕ). IsServed b n s (answer_of_trace task image x)) is (record { is = trace_is task image trace; asks = asks; course = h })
told_if_served b n asks s (Seed i cpus budget seed) image trace told is h = record { is = with_is (Seed i cpus budget seed) image trace; asks = asks; course = h }
told_if_served b n asks s (Listing i) image trace told is h = record { is = with_is (Listing i) image trace; asks = asks; course = h }

image_served : (b n : Outside) (asks : List Ask) (s : Status) (order : ImageOrder) (bytes : List ℕ) (image : Option Contents) (trace : List ℕ) (told : Option (List ℕ)) → IfSome told (λ t. trace ≡ t) → Course b n (answer_by order bytes image trace) asks s → IfSome (answer_of_image order bytes image told) (IsServed b n s)
image_served b n asks s order bytes None trace told is h = record { is = answer_is order bytes None trace; asks = asks; course = h }
image_served b n asks s order bytes (Some image) trace told is h = told_if_served b n asks s order image trace told is h

files_told : (b n : Outside) (asks : List Ask) (s : Status) (order : ImageOrder) (image trace : List ℕ) (told_image told_trace : Option (List ℕ)) → IfSome told_image (λ t. image ≡ t) → IfSome told_trace (λ t. trace ≡ t) → Course b n (answer_by order image (image_in image) trace) asks s
    → IfSome (answer_of_files order told_image told_trace) (IsServed b n s)
files_told b n asks s order image trace None told_trace is others h = tt
files_told b n asks s order image trace (Some t) told_trace is others h =
    image_served b n asks s order t (image_in t) trace told_trace others (subst (λ (x : List ℕ). Course b n (answer_by order x (image_in x) trace) asks s) is h)

source_told_served : (b n : Outside) (source : SourceOrder) (bytes : List ℕ) (s : Status) (told : Option (List ℕ)) → IfSome told (λ t. bytes ≡ t) → Course b n (source_answer source bytes) (source_ask source ∷ []) s → IfSome (option_map (source_answer source) told) (IsServed b n s)
source_told_served b n source bytes s None is h = tt
source_told_served b n source bytes s (Some t) is h = subst (λ (x : List ℕ). IsServed b n s (source_answer source x)) is (record { is = source_is source bytes; asks = source_ask source ∷ []; course = h })

told_served : (told : List ℕ → Option (List ℕ)) (order : Option Order) (b n : Outside) (s : Status) → Serves told order b n s → IfSome (answer_of order told) (IsServed b n s)
told_served told None b n s h = record { is = over_is None [] []; asks = []; course = h.course }
told_served told (Some (From source)) b n s h = source_told_served b n source h.image s (told (source_name source)) h.image_is_told h.course
told_served told (Some (Gen number)) b n s h = record { is = over_is (Some (Gen number)) [] []; asks = []; course = h.course }
told_served told (Some (Over order)) b n s h = files_told b n _ s order h.image h.trace (told (image_name order)) (trace_told_by order told) h.image_is_told h.trace_is_told h.course

-- what follows of an answer that may be none
if_some : {A : Type 0} (P Q : A → Type 0) (o : Option A) → ((x : A) → P x → Q x) → IfSome o P → IfSome o Q
if_some P Q None f h = tt
if_some P Q (Some x) f h = f x h

pub serves_answer : (told : List ℕ → Option (List ℕ)) (order : Option Order) (b n : Outside) (s : Status) → Serves told order b n s → IfSome (answer_of order told) (λ a. Settles b n a s)
serves_answer told order b n s h = if_some (IsServed b n s) (λ a. Settles b n a s) (answer_of order told) (λ a x. settles b n a x.asks s x.is x.course) (told_served told order b n s h)

pub serves_puts : (told : List ℕ → Option (List ℕ)) (order : Option Order) (b n : Outside) (s : Status) → Serves told order b n s → IfSome (answer_of order told) (λ a. PutsEach b n a s)
serves_puts told order b n s h = if_some (IsServed b n s) (λ a. PutsEach b n a s) (answer_of order told) (λ a x. puts_each b n a x.asks s x.is x.course) (told_served told order b n s h)

both : (b n : Outside) (s : Status) (order : Option Order) (image : Option Contents) (ls : List (Option (List ℕ))) (answer : Option Answer) → IfSome answer (λ a. Settles b n a s) → IfSome answer (IsLawful order image ls) → IfSome answer (SettlesLawfully b n order image ls s)
both b n s order image ls None settled lawful = tt
both b n s order image ls (Some a) settled lawful = (settled, lawful)

pub serves_lawfully : (told : List ℕ → Option (List ℕ)) (order : Option Order) (b n : Outside) (s : Status) → Serves told order b n s → IfSome (image_told order told) AreBytes
    → IfSome (answer_of order told) (SettlesLawfully b n order (image_of_file (image_told order told)) (lines_of_file (trace_told order told)) s)
serves_lawfully told order b n s h all = both b n s order _ _ (answer_of order told) (serves_answer told order b n s h) (told_lawful order told all)

pub serves_needed : (told : List ℕ → Option (List ℕ)) (order : Option Order) (b n : Outside) (s : Status) → Serves told order b n s → IfSome (image_told order told) (λ bytes. AsksNeeded b.desk n.desk (asks_by order (image_in bytes)) s)
serves_needed told None b n s h = tt
serves_needed told (Some (Gen number)) b n s h = tt
serves_needed told (Some (From source)) b n s h =
    if_some (λ bytes. h.image ≡ bytes) (λ bytes. AsksNeeded b.desk n.desk (source_ask source ∷ []) s) (told (source_name source))
    (λ bytes is. asks_needed b n (source_answer source h.image) (source_ask source ∷ []) s (source_is source h.image) h.course) h.image_is_told
serves_needed told (Some (Over order)) b n s h =
    if_some (λ bytes. h.image ≡ bytes) (λ bytes. AsksNeeded b.desk n.desk (asks_by (Some (Over order)) (image_in bytes)) s) (told (image_name order))
    (λ bytes is. subst (λ (x : List ℕ). AsksNeeded b.desk n.desk (asks_by (Some (Over order)) (image_in x)) s) is (asks_needed b n (answer_by order h.image (image_in h.image) h.trace) _ s (answer_is order h.image (image_in h.image) h.trace) h.course))
    h.image_is_told

-- ---- and where nothing is told

pub serves_sink_count : (told : List ℕ → Option (List ℕ)) (order : Option Order) (b n : Outside) (s : Status) → Serves told order b n s → SinkCount b.sink.faults n.sink.faults s
serves_sink_count told order b n s h = sink_count b n (answer_over order h.image h.trace) _ s h.course

pub serves_desk_count : (told : List ℕ → Option (List ℕ)) (order : Option Order) (b n : Outside) (s : Status) → Serves told order b n s → DeskCount b.desk.faults n.desk.faults s
serves_desk_count told order b n s h = desk_count b n (answer_over order h.image h.trace) _ s (over_is order h.image h.trace) h.course

pub serves_asks : (told : List ℕ → Option (List ℕ)) (order : Option Order) (b n : Outside) (s : Status) → Serves told order b n s → AsksInTurn b.desk.asks n.desk.asks (asks_of order) s
serves_asks told order b n s h = asks_in_turn b n order h.image h.trace s h.course

-- a list of numbers is one of bytes, or not
not_below : (x : ℕ) → nat_lt x 256 ≡ false → x < 256 → ⊥
not_below x is below = let less : nat_lt x 256 ≡ true = lt-ltb x 256 below in cc

byte_test : (x : ℕ) (xs : List ℕ) (below : Bool) → nat_lt x 256 ≡ below → AreBytes xs ⊎ (AreBytes xs → ⊥) → AreBytes (x ∷ xs) ⊎ (AreBytes (x ∷ xs) → ⊥)
byte_test x xs true is (inl all) = inl (λ i. by_index i)
  where
    by_index : (i : ℕ) → slice_index (x ∷ xs) i < 256
    by_index zero = ltb-true x 256 is
    by_index (suc i) = all i
byte_test x xs true is (inr other) = inr (λ all. other (λ i. all (suc i)))
byte_test x xs false is rest = inr (λ all. not_below x is (all zero))

are_bytes : (xs : List ℕ) → AreBytes xs ⊎ (AreBytes xs → ⊥)
are_bytes [] = inl (λ i. omega arith)
are_bytes (x ∷ xs) = byte_test x xs (nat_lt x 256) refl (are_bytes xs)

some_over : (told : List ℕ → Option (List ℕ)) (order : Option Order) (b n : Outside) (s : Status) (h : Serves told order b n s) (image : List ℕ) → IfSome (image_told order told) (λ bytes. AreBytes bytes → image ≡ bytes) → IfSome (image_over order image) IsValid
    → ByFirst b n order image h.trace s → SettlesSome told b n order s
some_over told order b n s h image is valid course = record {
  image = image;
  trace = h.trace;
  image_is_told = is;
  trace_is_told = h.trace_is_told;
  settled = (settles b n (answer_over order image h.trace) _ s (over_is order image h.trace) course, over_lawful order image h.trace valid);
  puts = puts_each b n (answer_over order image h.trace) _ s (over_is order image h.trace) course;
  asked = asks_needed b n (answer_over order image h.trace) _ s (over_is order image h.trace) course;
}

-- the empty list has no image
empty_valid : (order : Option Order) → IfSome (image_over order []) IsValid
empty_valid None = tt
empty_valid (Some (Gen number)) = tt
empty_valid (Some (From source)) = tt
empty_valid (Some (Over order)) = rw none_is_no_image tt

bytes_valid : (order : Option Order) (bytes : List ℕ) → AreBytes bytes → IfSome (image_over order bytes) IsValid
bytes_valid None bytes all = tt
bytes_valid (Some (Gen number)) bytes all = tt
bytes_valid (Some (From source)) bytes all = tt
bytes_valid (Some (Over order)) bytes all = valid_in bytes all

-- any first file will do: the told one, if it is of bytes
some_of_each : (told : List ℕ → Option (List ℕ)) (order : Option Order) (b n : Outside) (s : Status) (h : Serves told order b n s) (first : Option (List ℕ)) → image_told order told ≡ first → ((other : List ℕ) → ByFirst b n order other h.trace s) → SettlesSome told b n order s
some_of_each told order b n s h None is each = some_over told order b n s h [] (rw is tt) (empty_valid order) (each [])
some_of_each told order b n s h (Some bytes) is each = test (are_bytes bytes)
  where
    test : AreBytes bytes ⊎ (AreBytes bytes → ⊥) → SettlesSome told b n order s
    test (inl all) = some_over told order b n s h bytes (rw is (λ x. refl)) (bytes_valid order bytes all) (each bytes)
    test (inr other) = some_over told order b n s h [] (rw is (λ all. absurd (other all))) (empty_valid order) (each [])

pub serves_some : (told : List ℕ → Option (List ℕ)) (order : Option Order) (b n : Outside) (s : Status) → Serves told order b n s → SettlesSome told b n order s
serves_some told order b n s h = by_sure h.sure
  where
    by_sure : IfSome (image_over order h.image) IsValid ⊎ ((other : List ℕ) → ByFirst b n order other h.trace s) → SettlesSome told b n order s
    by_sure (inl valid) = some_over told order b n s h h.image (if_some (λ bytes. h.image ≡ bytes) (λ bytes. AreBytes bytes → h.image ≡ bytes) (image_told order told) (λ bytes is all. is) h.image_is_told) valid h.course
    by_sure (inr each) = some_of_each told order b n s h (image_told order told) refl each
