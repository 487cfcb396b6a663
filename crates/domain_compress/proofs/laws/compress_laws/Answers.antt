use Rattle.domain_compress.specs.Pointed.{compressed_reads_back}
use Rattle.domain_compress.proofs.OneResult.{compresses_once, stands_more, stands_cut}
use Rattle.domain_compress.proofs.Standing.{stands_kept, added, added_stays, no_remembered, remembered_more, remembered_cut, remembered_kept}
use Rattle.domain_compress.proofs.laws.compress_laws.Goals as goal

pub returns-clause-once : goal.returns-clause-once
returns-clause-once c = compresses_once

pub returns-clause-reads_back : goal.returns-clause-reads_back
returns-clause-reads_back c = λ t ws ls a s name x. compressed_reads_back t ws ls a s name x

pub returns-clause-more : goal.returns-clause-more
returns-clause-more c = stands_more

pub returns-clause-cut : goal.returns-clause-cut
returns-clause-cut c = stands_cut

pub returns-clause-kept : goal.returns-clause-kept
returns-clause-kept c = stands_kept

pub returns-clause-remembered_more : goal.returns-clause-remembered_more
returns-clause-remembered_more c = remembered_more

pub returns-clause-remembered_cut : goal.returns-clause-remembered_cut
returns-clause-remembered_cut c = remembered_cut

pub returns-clause-remembered_kept : goal.returns-clause-remembered_kept
returns-clause-remembered_kept c = remembered_kept

pub returns-clause-remembered_added : goal.returns-clause-remembered_added
returns-clause-remembered_added c = added

pub returns-clause-stays : goal.returns-clause-stays
returns-clause-stays c = added_stays

pub returns-clause-remembered_none : goal.returns-clause-remembered_none
returns-clause-remembered_none c = no_remembered
