mod Innermost
