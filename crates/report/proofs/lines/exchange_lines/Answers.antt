use Rattle.std.proofs.Common.{◌≡◌, List, ℕ, ◌++◌, codes, ap, ◌∙◌, [], ◌∷◌, append-nil, Some, None, sym}
use Rattle.std.specs.List.{concat}
use Rattle.std.proofs.lemmas.Result.{IfOk-weaker}
use Rattle.drive.specs.declared.request.Exchange.{Exchange}
use Rattle.drive.specs.declared.request.Usage.{Usage}
use Rattle.report.specs.Text.{answer_text, exchange_text, newline, reported_text, request_text, usage_text}
use Rattle.report.proofs.lines.exchange_lines.Goals as goal

-- the text of these parts
abbrev laid : List ℕ → List ℕ → List ℕ → List ℕ
laid asked answer others = concat (asked ∷ newline ∷ codes "  " ∷ answer ∷ newline ∷ others ∷ [])

module _ (x : Exchange) (asked answer : List ℕ) (is_asked : asked ≡ request_text x.request) (is_answer : answer ≡ answer_text x.answer) where
  parts : (others : List ℕ) → others ≡ reported_text x.reported → laid asked answer others ≡ exchange_text x
  parts others is = ap (λ l. laid l answer others) is_asked ∙ ap (λ l. laid (request_text x.request) l others) is_answer ∙ ap (laid (request_text x.request) (answer_text x.answer)) is

  nothing : x.reported ≡ None → laid asked answer [] ≡ exchange_text x
  nothing r = parts [] (sym (ap reported_text r))

  usage : (u : Usage) (text : List ℕ) → x.reported ≡ Some u → text ≡ usage_text u → concat (asked ∷ newline ∷ codes "  " ∷ answer ∷ newline ∷ codes "  " ∷ text ∷ newline ∷ []) ≡ exchange_text x
  usage u text r is =
      ap (λ l. asked ++ (newline ++ (codes "  " ++ (answer ++ (newline ++ (codes "  " ++ l)))))) (sym (append-nil (text ++ newline)))
      ∙ parts _ (ap (λ l. concat (codes "  " ∷ l ∷ newline ∷ [])) is ∙ sym (ap reported_text r))

pub returns-in-None : goal.returns-in-None
returns-in-None c = IfOk-weaker c.format.result _ _ (λ s is. is ∙ nothing c.args.exchange.now _ _ c.in_ok-asked.ensures c.in_ok-answer.ensures c.in-None.is) c.format.ensures.ok

pub returns : goal.returns
returns c = IfOk-weaker c.format-in-Some.result _ _ (λ s is. is ∙ usage c.args.exchange.now _ _ c.in_ok-asked.ensures c.in_ok-answer.ensures c.in-Some.usage _ c.in-Some.is c.in_ok-usage-in-Some.ensures) c.format-in-Some.ensures.ok
