-- Which of the lent slices is the first that is too short.
use Rattle.std.proofs.Common.{◌≡◌, ℕ, ◌+◌, ◌*◌, ◌<◌, ◌≤◌, min, List, map, length, Ok, Err, refl, ap, ◌∙◌, subst, arith}
use Rattle.std.proofs.lemmas.Nat.{mul-le}
use Rattle.std.proofs.lemmas.List.{length-append, length-map}
use Rattle.deals.specs.Contract.{Deal}
use Rattle.deals.specs.Lines.{deal_pair, pair_count}
use Rattle.texts.specs.declared.stages.Stage.TheVariants.{Thin}
use Rattle.mornings.specs.declared.Start.{Start}
use Rattle.mornings.proofs.Handed.{walked}
use Rattle.settlement.specs.declared.room.Lent.{Lent}
use Rattle.settlement.specs.declared.room.Lent.TheVariants.{Deals, Rates, Work, Payments, Sums}
use Rattle.settlement.specs.declared.room.Lengths.{Lengths}
use Rattle.settlement.specs.Counting.{PairsStand}
use Rattle.settlement.specs.Room.{slice_number, length_of, wanted, LongEnough, HasRoom, Measures}
use Rattle.settlement.proofs.Pairs.{different_few}

-- those with a number below k, each by itself
each_below : (need lent : Lengths) (k : ℕ) → (0 < k → need.deals ≤ lent.deals) → (1 < k → need.rates ≤ lent.rates) → (2 < k → need.work ≤ lent.work) → (3 < k → need.payments ≤ lent.payments) → (4 < k → need.sums ≤ lent.sums) →
    (s : Lent) → slice_number s < k → length_of need s ≤ length_of lent s
each_below need lent k d r w p u Deals lt = d lt
each_below need lent k d r w p u Rates lt = r lt
each_below need lent k d r w p u Work lt = w lt
each_below need lent k d r w p u Payments lt = p lt
each_below need lent k d r w p u Sums lt = u lt

five : (s : Lent) → slice_number s < 5
five Deals = omega arith
five Rates = omega arith
five Work = omega arith
five Payments = omega arith
five Sums = omega arith

-- there are as many deals as were kept and came, and no more pairs
pub deals_many : (s : List ℕ) (first : ℕ) (bytes : List ℕ) (new : ℕ) (dd : List Deal) → PairsStand s first bytes new dd → length dd ≡ first + new
deals_many s first bytes new dd p =
    let come : length p.later ≡ new = (walked.0 Thin p.start p.day).0 new first 2 p.to bytes p.later p.come in
    ap length p.parts ∙ length-append p.old p.later ∙ omega (arith, p.many, come)

pairs_few : (dd : List Deal) → pair_count dd ≤ length dd
unfolding pair_count
pairs_few dd = omega (arith, different_few (map deal_pair dd), length-map dd deal_pair)

-- the walk through the slices, as far as each answer
module _ (st : Start) (s : List ℕ) (first : ℕ) (bytes : List ℕ) (new : ℕ) (lent : Lengths) where
  pub few_bytes : lent.deals < 16384 * (first + new) → Measures st s first bytes new lent (Err Deals)
  few_bytes short =
      record {
        safe = tt;
        no_deals = λ less. refl;
        means = λ dd p few.
            let many = deals_many s first bytes new dd p in
            record { short = omega (arith, many, short); before = each_below (wanted st dd) lent 0 (λ lt. absurd (omega arith)) (λ lt. absurd (omega arith)) (λ lt. absurd (omega arith)) (λ lt. absurd (omega arith)) (λ lt. absurd (omega arith)) };
      }

  pub too_many : 65536 < first + new → Measures st s first bytes new lent (Err Deals)
  too_many more = record { safe = tt; no_deals = λ less. refl; means = λ dd p few. let many = deals_many s first bytes new dd p in absurd (omega (arith, many, more, few)) }

  module _ (deals : 16384 * (first + new) ≤ lent.deals) where
    pub no_rates : lent.rates < 4097 * st.rates → Measures st s first bytes new lent (Err Rates)
    no_rates short =
        record {
          safe = tt;
          no_deals = λ less. absurd (omega (arith, less, deals));
          means = λ dd p few.
              let many = deals_many s first bytes new dd p in
              record { short = short; before = each_below (wanted st dd) lent 1 (λ lt. omega (arith, many, deals)) (λ lt. absurd (omega arith)) (λ lt. absurd (omega arith)) (λ lt. absurd (omega arith)) (λ lt. absurd (omega arith)) };
        }

    module _ (rates : 4097 * st.rates ≤ lent.rates) where
      pub no_work : lent.work < 131072 → Measures st s first bytes new lent (Err Work)
      no_work short =
          record {
            safe = tt;
            no_deals = λ less. absurd (omega (arith, less, deals));
            means = λ dd p few.
                let many = deals_many s first bytes new dd p in
                record { short = short; before = each_below (wanted st dd) lent 2 (λ lt. omega (arith, many, deals)) (λ lt. rates) (λ lt. absurd (omega arith)) (λ lt. absurd (omega arith)) (λ lt. absurd (omega arith)) };
          }

      module _ (work : 131072 ≤ lent.work) (few_all : first + new ≤ 65536) where
        has_room : HasRoom first new lent (first + new)
        has_room = record { many = refl; few = few_all; deals = deals; work = work }

        long : (dd : List Deal) → PairsStand s first bytes new dd → 13 * (pair_count dd * st.currencies) ≤ lent.payments → 13 * (pair_count dd * st.currencies) ≤ lent.sums → LongEnough (wanted st dd) lent
        long dd p enough enough' t =
            let many = deals_many s first bytes new dd p in
            each_below (wanted st dd) lent 5 (λ lt. omega (arith, many, deals)) (λ lt. rates) (λ lt. work) (λ lt. enough) (λ lt. enough') t (five t)

        -- there is room for a pair for each deal
        pub room_for_all : (least : ℕ) → least ≡ min lent.payments lent.sums → 13 * ((first + new) * st.currencies) ≤ least → Measures st s first bytes new lent (Ok (first + new))
        room_for_all least is enough =
            record {
              safe = has_room;
              no_deals = λ less. absurd (omega (arith, less, deals));
              means = λ dd p few.
                  let most = mul-le (pair_count dd) st.currencies (first + new) st.currencies (omega (arith, pairs_few dd, deals_many s first bytes new dd p)) (omega arith) in
                  long dd p (omega (arith, is, enough, most)) (omega (arith, is, enough, most));
            }

        -- the pairs were counted
        module _ (counted pairs : ℕ) (count : (dd : List Deal) → length dd ≤ 65536 → PairsStand s first bytes new dd → counted ≡ pair_count dd) (pairs_are : pairs ≡ min counted (first + new)) where
          pairs_is : (dd : List Deal) → length dd ≤ 65536 → PairsStand s first bytes new dd → pairs ≡ pair_count dd
          pairs_is dd few p = omega (arith, pairs_are, count dd few p, pairs_few dd, deals_many s first bytes new dd p)

          pub no_payments : lent.payments < 13 * (pairs * st.currencies) → Measures st s first bytes new lent (Err Payments)
          no_payments short =
              record {
                safe = tt;
                no_deals = λ less. absurd (omega (arith, less, deals));
                means = λ dd p few.
                    let many = deals_many s first bytes new dd p in
                    record {
                      short = subst (λ n. lent.payments < 13 * (n * st.currencies)) (pairs_is dd few p) short;
                      before = each_below (wanted st dd) lent 3 (λ lt. omega (arith, many, deals)) (λ lt. rates) (λ lt. work) (λ lt. absurd (omega arith)) (λ lt. absurd (omega arith));
                    };
              }

          module _ (payments : 13 * (pairs * st.currencies) ≤ lent.payments) where
            enough : (dd : List Deal) → length dd ≤ 65536 → PairsStand s first bytes new dd → 13 * (pair_count dd * st.currencies) ≤ lent.payments
            enough dd few p = subst (λ n. 13 * (n * st.currencies) ≤ lent.payments) (pairs_is dd few p) payments

            pub no_sums : lent.sums < 13 * (pairs * st.currencies) → Measures st s first bytes new lent (Err Sums)
            no_sums short =
                record {
                  safe = tt;
                  no_deals = λ less. absurd (omega (arith, less, deals));
                  means = λ dd p few.
                      let many = deals_many s first bytes new dd p in
                      record {
                        short = subst (λ n. lent.sums < 13 * (n * st.currencies)) (pairs_is dd few p) short;
                        before = each_below (wanted st dd) lent 4 (λ lt. omega (arith, many, deals)) (λ lt. rates) (λ lt. work) (λ lt. enough dd few p) (λ lt. absurd (omega arith));
                      };
                }

            pub all_long : 13 * (pairs * st.currencies) ≤ lent.sums → Measures st s first bytes new lent (Ok (first + new))
            all_long sums =
                record {
                  safe = has_room;
                  no_deals = λ less. absurd (omega (arith, less, deals));
                  means = λ dd p few. long dd p (enough dd few p) (subst (λ n. 13 * (n * st.currencies) ≤ lent.sums) (pairs_is dd few p) sums);
                }
