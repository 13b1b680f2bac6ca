use Rattle.std.proofs.Common.{◌≡◌, ◌+◌, length}
use Rattle.rt_filter.specs.Replies.{find_reply}
use Rattle.rt_filter.proofs.{FindLemmas.{reply_left}, PushLemmas.{AllBut}}
use Rattle.rt_filter.proofs.reply.push_search.Given as goal

-- the lines of the answers so far have gone out, and the search is the one that began
abbrev pub invariant-loop-id : goal.invariant-loop-id
invariant-loop-id g l =
    let all = l.initial.search.to_come in record {
      count : g.K.Sink.failed l.sink ≡ g.K.Sink.failed l.initial.sink;
      tree : l.search.tree ≡ l.initial.search.tree;
      geometry : l.search.geometry ≡ l.initial.search.geometry;
      limit : l.search.limit ≡ l.initial.search.limit;
      opened_before : l.search.opened_before ≡ l.initial.search.opened_before;
      capacity : l.search.capacity ≡ l.initial.search.capacity;
      many : l.found + length l.search.to_come ≡ length all;
      pushed : AllBut (find_reply l.line all) (g.K.Sink.written l.initial.sink) (g.K.Sink.written l.sink)
          (reply_left l.line (length all) l.search.to_come);
    }

abbrev pub decreases-loop-id : goal.decreases-loop-id
decreases-loop-id g l = length l.search.to_come
