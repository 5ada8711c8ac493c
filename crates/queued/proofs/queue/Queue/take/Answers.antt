-- A queued line is renewed at its place; any other enters once there is room.
use Rattle.std.proofs.Common.{[], ◌∷◌, ◌++◌, sym, refl, ap, ◌∙◌, eqb-true, rules}
use Rattle.std.proofs.lemmas.List.Folds.{list_any_at}
use Rattle.std.proofs.lemmas.List.Quantifiers.{position-Some}
use Rattle.queued.specs.Slots.{slot}
use Rattle.queued.proofs.Entries.{out, anew, refill_set, pushed, written}
use Rattle.queued.proofs.queue.Queue.take.Goals as goal

pub invariant_of-self : goal.invariant_of-self
invariant_of-self c =
    let q = c.args.self.now in
    let es = q.slots.items in
    let at = position-Some _ es c.in-Some.place (slot 0 []) (sym c.in-Some.ensures) in
    let kept = written es _ (record { few = q.few; whole = q.whole; once = q.once }) c.args.write.line c.args.write.content c.in-Some.place at.0 (eqb-true _ c.args.write.line at.1)
    (refill_set es c.as_mut_slice.result.now c.in-Some.place c.args.write c.as_mut_slice.ensures.value) (search rules) in
    record { few = kept.few; whole = kept.whole; once = kept.once }

pub returns-in-Some-clause-out : goal.returns-in-Some-clause-out
returns-in-Some-clause-out c =
    let es = c.args.self.now.slots.items in
    let at = position-Some _ es c.in-Some.place (slot 0 []) (sym c.in-Some.ensures) in
    rw (list_any_at _ es c.in-Some.place (slot 0 []) at.0 at.1) refl

pub returns-in-Some-clause-after : goal.returns-in-Some-clause-after
returns-in-Some-clause-after c =
    let q = c.args.self.now in
    let es = q.slots.items in
    let at = position-Some _ es c.in-Some.place (slot 0 []) (sym c.in-Some.ensures) in
    rw (list_any_at _ es c.in-Some.place (slot 0 []) at.0 at.1)
    (anew es _ (record { few = q.few; whole = q.whole; once = q.once }) c.args.write.line c.args.write.content c.in-Some.place at.0 (eqb-true _ c.args.write.line at.1)
    (refill_set es c.as_mut_slice.result.now c.in-Some.place c.args.write c.as_mut_slice.ensures.value))

pub invariant_of-self-2 : goal.invariant_of-self-2
invariant_of-self-2 c =
    let q = c.args.self.now in
    let r = c.make_room-oldest.new.self in
    let kept = pushed q.slots.items r.slots.items c.push.new.self.items c.args.write.line c.args.write.content q.few (out q.slots.items c.args.write.line (sym c.in_default.ensures)) c.make_room-oldest.ensures.others
    (record { few = r.few; whole = r.whole; once = r.once }) (search rules) c.push.ensures.items in
    record { few = kept.few; whole = kept.whole; once = kept.once }

pub returns-clause-out : goal.returns-clause-out
returns-clause-out c = rw (out c.args.self.now.slots.items c.args.write.line (sym c.in_default.ensures)) c.make_room-oldest.ensures.oldest

pub returns-clause-after : goal.returns-clause-after
returns-clause-after c = rw (out c.args.self.now.slots.items c.args.write.line (sym c.in_default.ensures)) (c.push.ensures.items ∙ ap (λ xs. xs ++ (c.args.write ∷ [])) c.make_room-oldest.ensures.others)
