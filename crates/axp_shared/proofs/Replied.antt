-- Where each call of a list is right after those before it, the bus answers so.
use Rattle.std.proofs.Common.{ℕ, ◌<◌, ◌^◌, List, [], ◌∷◌, ◌++◌, reverse, sym, subst, ap, arith, append_assoc, append-nil}
use Rattle.std.proofs.lemmas.List.{length-reverse, reverse-append}
use Rattle.axp_bus.specs.ReplyLaws.{Answers, turn_of}
use Rattle.axp_bus.proofs.ReplyLemmas.{answers_fit, reply_turn, turns_most}
use Rattle.axp_call.specs.Calls.{AllRight, RightAfter}
use Rattle.axp_line.specs.BusCalls.{BusCall}
use Rattle.axp_line.specs.BusReply.{AreReplied, port_state}
use Rattle.axp_line.specs.declared.messages.Reply.{Reply}
use Rattle.axp_line.specs.declared.messages.Request.{Request}
use Rattle.axp_shared.specs.Answers.{IsBusAnswer, start_memory}
use Rattle.axp_shared.specs.declared.logs.BusStart.{BusStart}

module _ (start : BusStart) where
  replied_after : (before calls : List BusCall) → RightAfter IsBusAnswer start before calls
      → AreReplied (start_memory start) (reverse before)
      → AreReplied (start_memory start) (reverse (before ++ calls))
  replied_after before [] right replied =
      subst (λ (cs : List BusCall). AreReplied (start_memory start) (reverse cs))
      (sym (append-nil before)) replied
  replied_after before (c ∷ cs) right replied =
      let now : AreReplied (start_memory start) (reverse (before ++ c ∷ [])) =
      subst (AreReplied (start_memory start)) (sym (reverse-append before (c ∷ [])))
      (right.0.reply, replied) in
      subst (λ (l : List BusCall). AreReplied (start_memory start) (reverse l))
      (append_assoc before (c ∷ []) cs) (replied_after (before ++ c ∷ []) cs right.1 now)

  pub all_replied : (calls : List BusCall) → AllRight IsBusAnswer start calls
      → AreReplied (start_memory start) (reverse calls)
  all_replied calls right = replied_after [] calls right tt

  module _ (before : List BusCall) (cpu : ℕ) (request : Request) (answer : Reply) where
    pub right_kind : IsBusAnswer start before cpu request answer → Answers request answer
    right_kind right = subst (Answers request) (sym right.reply)
        (answers_fit (port_state (start_memory start) (reverse before) cpu) request)

    pub right_turn : IsBusAnswer start before cpu request answer → turn_of answer < 2 ^ 32
    right_turn right =
        let is = ap turn_of right.reply in
        let most = reply_turn (start_memory start) (reverse before) cpu request in
        let few = turns_most (reverse before) in
        let same = length-reverse before in
        let small = right.small in
        omega (arith, is, most, few, same, small)
