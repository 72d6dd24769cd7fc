use Rattle.std.proofs.Common.{◌≡◌, ◌∙◌, List, ℕ, [], ◌∷◌, true, false, codes, ap, map, vec_items, rules}
use Rattle.std.proofs.lemmas.Iterator.{YieldsList-from_map_by}
use Rattle.std.proofs.lemmas.Iterator.Adapters.{YieldsList-from_vec}
use Rattle.std.proofs.lemmas.Iterator.Consumers.{map_from_collect}
use Rattle.std.proofs.lemmas.Result.{IfOk-weaker}
use Rattle.rules.specs.Model as model
use Rattle.rules.specs.Runs.{Call}
use Rattle.drive.specs.declared.request.Request.{Request}
use Rattle.drive.specs.Exchanges.{call_of, request_of}
use Rattle.exam.specs.Calls.{asked, exam_calls}
use Rattle.exam.proofs.requests.exam_requests.Goals as goal

-- the calls, by the IDs that are copied
by_ids : (a b c d : List ℕ) → a ≡ codes "EXAM 1" → b ≡ codes "EXAM 1" → c ≡ codes "EXAM;1" → d ≡ codes "EXAM 1"
    → map asked (model.Status ∷ model.Tab true ∷ model.Format a ∷ model.Tab false ∷ model.Door true ∷ model.Format b ∷ model.Door false ∷ model.Format c ∷ model.Format d ∷ model.Status ∷ []) ≡ exam_calls
by_ids a b c d is_a is_b is_c is_d = rw (is_a, is_b, is_c, is_d)

pub returns : goal.returns
returns c =
    let requests = vec_items c.in_ok-requests.requests in
    let to_call : Request → Call = λ q. asked (request_of q) in
    IfOk-weaker c.collect.result _ _ (λ v is. is ∙ ap (map to_call) c.in_ok-requests.ensures.items ∙ by_ids _ _ _ _ (search rules) (search rules) (search rules) (search rules))
    (map_from_collect c.collect.result c.collect.ensures.ran
    (YieldsList-from_map_by _ call_of to_call (YieldsList-from_vec requests (search rules) (search rules)) c.map.ensures.closure (λ x r q k. search rules)))
