mod Leaps
