use Rattle.texts.proofs.Mapped.{handed_on}
use Rattle.texts.proofs.Parts.{a_word, ◌also◌, by_words, free, then_took, then_stops, stops_then}
use Rattle.texts.proofs.FigureParts.{a_number, an_amount}
use Rattle.std.proofs.Common.{[], ◌∷◌, ◌++◌, refl, ◌∙◌, subst, w64, SFits, rules}
use Rattle.std.proofs.lemmas.Int.{to_z-of_z}
use Rattle.deals.specs.Contract.{pays}
use Rattle.texts.specs.Nodes.{Grown}
use Rattle.texts.specs.declared.nodes.Node.TheVariants.{Pays}
use Rattle.texts.proofs.ContractParts.{pays_as, pays_stops}
use Rattle.texts.specs.Ranges.{Counts}
use Rattle.texts.proofs.Notes.{noted_then, noted_took, noted_number}
use Rattle.texts.proofs.contracts.pays.Goals as goal

pub returns-in_err-to : goal.returns-in_err-to
returns-in_err-to c =
    handed_on _ _ _ _ c.from_residual.ensures.1 (pays_stops c.args.text.now c.args.at c.requires.opens (stops_then free (an_amount also a_word also a_number) c.in_err-to.ensures))

pub returns-in_err-a : goal.returns-in_err-a
returns-in_err-a c =
    handed_on _ _ _ _ c.from_residual-in_err-a.ensures.1 (pays_stops c.args.text.now c.args.at c.requires.opens (then_stops free c.in_ok-to.ensures (stops_then (by_words _ refl) (a_word also a_number) c.in_err-a.ensures)))

pub returns-in_err-to-2 : goal.returns-in_err-to-2
returns-in_err-to-2 c =
    handed_on _ _ _ _ c.from_residual-in_err-to-2.ensures.1 (pays_stops c.args.text.now c.args.at c.requires.opens (then_stops free c.in_ok-to.ensures (then_stops (by_words _ refl) c.in_ok-a.ensures.2 (stops_then free a_number c.in_err-to-2.ensures))))

pub returns-in_err-k : goal.returns-in_err-k
returns-in_err-k c =
    handed_on _ _ _ _ c.from_residual-in_err-k.ensures.1 (pays_stops c.args.text.now c.args.at c.requires.opens (then_stops free c.in_ok-to.ensures (then_stops (by_words _ refl) c.in_ok-a.ensures.2 (then_stops free c.in_ok-to-2.ensures c.in_err-k.ensures))))

pub returns : goal.returns
returns c =
    let a = c.in_ok-a.ensures in
    let k = c.in_ok-k.ensures in
    let fits : SFits w64 c.in_ok-a.a = search rules in (
      pays k.0 a.0,
      pays_as c.args.text.now c.args.at c.requires.opens (then_took free c.in_ok-to.ensures (then_took (by_words _ refl) c.in_ok-a.ensures.2 (then_took free c.in_ok-to-2.ensures (k.2)))),
      rw (← k.1) (subst (λ v. Grown c.args.read.now.tree c.push.new.self (Pays c.in_ok-k.k v ∷ [])) (to_z-of_z w64 c.in_ok-a.a fits ∙ a.1) c.push.ensures),
      noted_then (noted_took c.in_ok-to.ensures) (noted_then (noted_took a.2) (noted_then (noted_took c.in_ok-to-2.ensures)
          (noted_number (λ rs cs. cs) (λ rs cs ks h. subst (λ l. Counts c.note.new.self rs cs (ks ++ record { place = c.in_ok-to-2.to; limit = l; value = k.0 } ∷ [])) h.currencies_are (c.note.ensures rs cs k.0 ks h k.1)) k.2))),
    )
